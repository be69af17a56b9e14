use Rattle.std.proofs.Common.{◌≡◌, map}
use Rattle.fol_formula.specs.Syntax.{FormTrees, forms_then}
use Rattle.fol_formula.specs.View.{form}
use Rattle.cti_minimise.specs.SizeBounds.{equations_with}
use Rattle.cti_minimise.proofs.bounds.push_equations.Given as goal

abbrev pub invariant-loop-left : goal.invariant-loop-left
invariant-loop-left l =
    (others : FormTrees) → forms_then (map form l.all.items) (equations_with l.last l.left others)
    ≡ forms_then (map form l.initial.all.items) (equations_with l.last l.last others)

abbrev pub decreases-loop-left : goal.decreases-loop-left
decreases-loop-left l = l.left
