use Rattle.std.proofs.Common.{sym, ap, ◌∙◌, subst}
use Rattle.fol_formula.specs.Fits.{BoundForm}
use Rattle.cti_minimise.specs.SizeBounds.{for_some_times, size_bound}
use Rattle.cti_minimise.proofs.BoundFits.{bounds-fit, bound-closed}
use Rattle.cti_minimise.proofs.bounds.size_bound.Goals as goal

pub of-requires : goal.of-requires
of-requires c =
    let k = c.args.sort.0 in
    let n = c.args.most in
    let is = c.in_ok-formula.ensures ∙ ap (for_some_times n k) c.in_ok-each.ensures in
    subst (BoundForm 0) (sym is) (bound-closed c.indices.ensures.bound size_bound bounds-fit k n)
