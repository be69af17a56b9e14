use Rattle.std.proofs.Common.{◌≡◌}
use Rattle.fol_sig.specs.Tables.{numbers}
use Rattle.fol_formula.specs.View.{form}
use Rattle.cti_minimise.specs.TupleBounds.{for_some_tuples}
use Rattle.cti_minimise.proofs.tuple_bounds.for_some_tuples.Given as goal

abbrev pub invariant-loop-i : goal.invariant-loop-i
invariant-loop-i l = form l.formula ≡ for_some_tuples l._i (numbers l.sorts) (form l.fn.body)
