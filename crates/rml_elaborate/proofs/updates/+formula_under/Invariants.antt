use Rattle.std.proofs.Common.{length}
use Rattle.rml_elaborate.proofs.updates.+formula_under.Given as goal

abbrev pub decreases-formula_under : goal.decreases-formula_under
decreases-formula_under l = length l.parameters.now
