use Rattle.std.proofs.Common.{◌+◌, drop, subst}
use Rattle.base.proofs.Lists.{drop_read}
use Rattle.ground_terms.specs.Terms.{term_counts}
use Rattle.ground_terms.specs.Same.{holds_in}
use Rattle.ground_terms.specs.Universe.{symbols_in}
use Rattle.structure_back.specs.Rows.{looked_up}
use Rattle.structure_back.specs.Tables.{SetsAtom}
use Rattle.structure_back.proofs.Setting.{AreSetTo, more-set}
use Rattle.structure_back.proofs.relations.set_relations.Goals as goal

pub loop-atom-preserved : goal.loop-atom-preserved
loop-atom-preserved c =
    let sig = symbols_in c.args.universe.now in
    let counts = term_counts c.args.universe.now.terms.now in
    let a = holds_in c.args.assignment.now in
    let v = looked_up c.args.classes.now.numbers in
    let items = c.as_slice-atom-items.result.now in
    let atom = c.atom-item.result in
    record {
      fits = c.set_atom.ensures.fits;
      sizes = c.set_atom.ensures.sizes;
      set =
          more-set c.atom_laws.ensures.same c.atom_laws.ensures.reflexive sig counts c.args.classes.now.sizes.items a v
          atom (drop (c.loop-atom.atom-index + 1) items) c.loop-atom.structure c.set_atom.new.structure
          c.sorts-sorts.ensures.sorted c.requires.classes.within c.loop-atom.invariant.sizes c.set_atom.ensures.sizes
          (subst (λ bs. AreSetTo sig counts a v bs c.loop-atom.structure)
          (drop_read items c.loop-atom.atom-index atom c.loop-atom-test.true c.atom-item.is)
          c.loop-atom.invariant.set)
          (subst (λ ns. SetsAtom sig ns v atom c.loop-atom.structure c.set_atom.new.structure) c.counts.ensures
          c.set_atom.ensures.set);
    }
