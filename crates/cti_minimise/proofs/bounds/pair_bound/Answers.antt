use Rattle.std.proofs.Common.{◌≡◌, ◌+◌, suc, sym, ap, ◌∙◌, subst, arith}
use Rattle.fol_formula.specs.Syntax.{disjunction}
use Rattle.fol_formula.specs.Fits.{BoundForm}
use Rattle.cti_minimise.specs.SizeBounds.{pair_equations, for_all_times, pair_bound}
use Rattle.cti_minimise.proofs.BoundFits.{bound-closed}
use Rattle.cti_minimise.proofs.PairFits.{pairs-fit}
use Rattle.cti_minimise.proofs.bounds.pair_bound.Goals as goal

pub of-requires : goal.of-requires
of-requires c =
    let k = c.args.sort.0 in
    let n = c.args.most in
    let next : n + 1 ≡ suc n = omega arith in
    let is = c.in_ok-formula.ensures ∙ ap (for_all_times (n + 1) k) c.in_ok-some.ensures
    ∙ ap (λ m. for_all_times m k (disjunction (pair_equations n))) next in
    subst (BoundForm 0) (sym is) (bound-closed c.indices.ensures.bound pair_bound pairs-fit k n)
