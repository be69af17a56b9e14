use Rattle.std.proofs.Common.{◌≡◌, length}
use Rattle.fol_formula.specs.View.{terms}
use Rattle.fol_subst.specs.Unchanged.{are_parameters}
use Rattle.fol_subst.proofs.own.are_parameters.Given as goal

abbrev pub invariant-loop-rest : goal.invariant-loop-rest
invariant-loop-rest l = are_parameters (terms l.rest) ≡ are_parameters (terms l.args)

abbrev pub decreases-loop-rest : goal.decreases-loop-rest
decreases-loop-rest l = length l.rest
