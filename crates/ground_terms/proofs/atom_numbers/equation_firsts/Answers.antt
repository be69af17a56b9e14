use Rattle.std.proofs.Common.{◌+◌, ◌*◌, min, get_or, ◌∙◌, refl}
use Rattle.ground_terms.specs.AtomNumbers.{equation_atoms}
use Rattle.ground_terms.proofs.Pushes.{values-more}
use Rattle.ground_terms.proofs.AtomFirsts.{sum-more, one-first}
use Rattle.ground_terms.proofs.atom_numbers.equation_firsts.Goals as goal

pub loop-k-init : goal.loop-k-init
loop-k-init c = record {
  before = refl;
  firsts = one-first _ c.new-firsts.result.items c.new-firsts.ensures.items 0 c.push.new.self.items
      c.in_ok-push.ensures.items refl;
}

pub loop-k-preserved : goal.loop-k-preserved
loop-k-preserved c =
    let counts = c.args.counts.now in
    let next = c.saturating_add-before.ensures
    ∙ sum-more (λ q. get_or counts q 0 * get_or counts q 0) c.loop-k.k 18446744073709551615 c.loop-k.before
    c.saturating_mul.result c.loop-k.invariant.before c.saturating_mul.ensures in
    record {
      before = next;
      firsts = values-more (λ q. min (equation_atoms counts q) 18446744073709551615) (c.loop-k.k + 1)
          c.saturating_add-before.result c.loop-k.firsts.items
          c.push-in-loop-k.new.self.items c.loop-k.invariant.firsts c.in_ok-push-2.ensures.items next;
    }
