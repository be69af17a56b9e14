use Rattle.std.proofs.Common.{length}
use Rattle.rml_elaborate.proofs.updates.+definition_under.Given as goal

abbrev pub decreases-definition_under : goal.decreases-definition_under
decreases-definition_under l = length l.parameters.now
