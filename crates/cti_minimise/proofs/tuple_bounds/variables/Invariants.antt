use Rattle.std.proofs.Common.{◌≡◌, map}
use Rattle.fol_formula.specs.Syntax.{terms_then}
use Rattle.fol_formula.specs.View.{term}
use Rattle.cti_minimise.specs.TupleBounds.{variables}
use Rattle.cti_minimise.proofs.tuple_bounds.variables.Given as goal

abbrev pub invariant-loop-left : goal.invariant-loop-left
invariant-loop-left l = terms_then (map term l.all.items) (variables 0 l.left) ≡ variables 0 l.arity

abbrev pub decreases-loop-left : goal.decreases-loop-left
decreases-loop-left l = l.left
