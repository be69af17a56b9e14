use Rattle.std.proofs.Common.{◌≡◌, map}
use Rattle.fol_formula.specs.Syntax.{forms_then}
use Rattle.fol_formula.specs.View.{form}
use Rattle.cti_minimise.specs.SizeBounds.{pair_equations}
use Rattle.cti_minimise.proofs.bounds.pair_equations.Given as goal

abbrev pub invariant-loop-left : goal.invariant-loop-left
invariant-loop-left l = forms_then (map form l.all.items) (pair_equations l.left) ≡ pair_equations l.last

abbrev pub decreases-loop-left : goal.decreases-loop-left
decreases-loop-left l = l.left
