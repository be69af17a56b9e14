use Rattle.std.proofs.Common.{◌≡◌, ◌≤◌, map}
use Rattle.fol_formula.specs.Syntax.{forms_then}
use Rattle.fol_formula.specs.View.{form}
use Rattle.cti_minimise.specs.TupleBounds.{tuple_choices}
use Rattle.cti_minimise.proofs.tuple_bounds.push_choices.Given as goal

abbrev pub invariant-loop-left : goal.invariant-loop-left
invariant-loop-left l =
    (l.left ≤ l.most)
    × (forms_then (map form l.parts.items) (tuple_choices l.arity l.left)
    ≡ forms_then (map form l.initial.parts.items) (tuple_choices l.arity l.most))

abbrev pub decreases-loop-left : goal.decreases-loop-left
decreases-loop-left l = l.left
