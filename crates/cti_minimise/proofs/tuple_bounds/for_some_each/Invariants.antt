use Rattle.std.proofs.Common.{◌≡◌, ◌≤◌, length, drop}
use Rattle.fol_sig.specs.Tables.{numbers}
use Rattle.fol_formula.specs.View.{form}
use Rattle.cti_minimise.specs.TupleBounds.{for_some_each}
use Rattle.cti_minimise.proofs.tuple_bounds.for_some_each.Given as goal

abbrev pub invariant-loop-left : goal.invariant-loop-left
invariant-loop-left l =
    (l.left ≤ length l.sorts) × (form l.formula ≡ for_some_each (drop l.left (numbers l.sorts)) (form l.fn.body))

abbrev pub decreases-loop-left : goal.decreases-loop-left
decreases-loop-left l = l.left
