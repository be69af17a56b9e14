use Rattle.std.proofs.Common.{length}
use Rattle.rml_elaborate.proofs.updates.+term_under.Given as goal

abbrev pub decreases-term_under : goal.decreases-term_under
decreases-term_under l = length l.parameters.now
