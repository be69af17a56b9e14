use Rattle.std.proofs.Common.{◌+◌, drop, subst}
use Rattle.base.proofs.Lists.{drop_read}
use Rattle.ground_terms.specs.Same.{holds_in}
use Rattle.structure_back.proofs.Lowering.{AreLeading, more-leading}
use Rattle.structure_back.proofs.leaders.find_leaders.Goals as goal

pub loop-atom-preserved : goal.loop-atom-preserved
loop-atom-preserved c =
    let a = holds_in c.args.assignment.now in
    let items = c.as_slice-atom-items.result.now in
    let atom = c.atom-item.result in
    more-leading c.atom_laws.ensures.same c.atom_laws.ensures.reflexive c.args.counts.now a atom
    (drop (c.loop-atom.atom-index + 1) items) c.loop-atom.leaders c.lower.new.leaders
    (subst (λ bs. AreLeading c.args.counts.now a bs c.loop-atom.leaders)
    (drop_read items c.loop-atom.atom-index atom c.loop-atom-test.true c.atom-item.is) c.loop-atom.invariant)
    c.lower.ensures
