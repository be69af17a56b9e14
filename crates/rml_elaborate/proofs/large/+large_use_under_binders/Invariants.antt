use Rattle.std.proofs.Common.{length}
use Rattle.rml_elaborate.proofs.large.+large_use_under_binders.Given as goal

abbrev pub decreases-large_use_under_binders : goal.decreases-large_use_under_binders
decreases-large_use_under_binders l = length l.parameters.now
