use Rattle.std.proofs.Common.{◌+◌, min, ap, ◌∙◌, refl}
use Rattle.fol_sig.specs.Symbols.{symbols}
use Rattle.fol_sig.specs.Tables.{tuple_count}
use Rattle.ground_terms.specs.AtomNumbers.{relation_atoms}
use Rattle.ground_terms.proofs.Pushes.{values-more}
use Rattle.ground_terms.proofs.AtomFirsts.{sum-more, one-first}
use Rattle.ground_terms.proofs.atom_numbers.relation_firsts.Goals as goal

pub loop-r-init : goal.loop-r-init
loop-r-init c = record {
  before = refl;
  firsts = one-first _ c.new-firsts.result.items c.new-firsts.ensures.items 0 c.push.new.self.items
      c.in_ok-push.ensures.items refl;
}

pub loop-r-preserved : goal.loop-r-preserved
loop-r-preserved c =
    let sig = symbols c.args.signature.now in
    let counts = c.args.counts.now in
    let count =
    c.count_tuples.ensures ∙ ap (λ ks. min (tuple_count counts ks) 18446744073709551615) c.sorts_of.ensures.value in
    let next = c.saturating_add-before.ensures
    ∙ sum-more (λ q. tuple_count counts (sig.sorts_of q)) c.loop-r.r 18446744073709551615 c.loop-r.before
    c.count_tuples.result c.loop-r.invariant.before count in
    record {
      before = next;
      firsts = values-more (λ q. min (relation_atoms sig counts q) 18446744073709551615) (c.loop-r.r + 1)
          c.saturating_add-before.result c.loop-r.firsts.items
          c.push-in-loop-r.new.self.items c.loop-r.invariant.firsts c.in_ok-push-2.ensures.items next;
    }
