use Rattle.std.proofs.Common.{length}
use Rattle.rml_elaborate.proofs.large.+large_formula_use_under.Given as goal

abbrev pub decreases-large_formula_use_under : goal.decreases-large_formula_use_under
decreases-large_formula_use_under l = length l.parameters.now
