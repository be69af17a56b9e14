use Rattle.std.proofs.Common.{◌≡◌, ◌≤◌, map}
use Rattle.fol_formula.specs.Syntax.{forms_then}
use Rattle.fol_formula.specs.View.{form}
use Rattle.cti_minimise.specs.TupleBounds.{tuple_equations}
use Rattle.cti_minimise.proofs.tuple_bounds.equations.Given as goal

abbrev pub invariant-loop-left : goal.invariant-loop-left
invariant-loop-left l =
    (l.left ≤ l.arity)
    × (forms_then (map form l.all.items) (tuple_equations l.behind l.left) ≡ tuple_equations l.behind l.arity)

abbrev pub decreases-loop-left : goal.decreases-loop-left
decreases-loop-left l = l.left
