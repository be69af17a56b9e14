use Rattle.std.proofs.Common.{◌≡◌}
use Rattle.fol_formula.specs.View.{form}
use Rattle.cti_minimise.specs.SizeBounds.{for_all_times}
use Rattle.cti_minimise.proofs.bounds.forall_times.Given as goal

abbrev pub invariant-loop-i : goal.invariant-loop-i
invariant-loop-i l = form l.formula ≡ for_all_times l._i l.sort.0 (form l.fn.body)
