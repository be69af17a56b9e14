use Rattle.std.proofs.Common.{◌≡◌, map}
use Rattle.fol_formula.specs.Syntax.{terms_then}
use Rattle.fol_formula.specs.View.{term}
use Rattle.rml_command.specs.Fresh.{parameters}
use Rattle.rml_wp.proofs.steps.at_parameters.Given as goal

abbrev pub invariant-loop-left : goal.invariant-loop-left
invariant-loop-left l = terms_then (map term l.args.items) (parameters l.left) ≡ parameters l.count

abbrev pub decreases-loop-left : goal.decreases-loop-left
decreases-loop-left l = l.left
