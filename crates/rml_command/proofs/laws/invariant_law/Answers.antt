use Rattle.rml_command.proofs.InvariantRuns.{true_in_runs}
use Rattle.rml_command.proofs.laws.invariant_law.Goals as goal

pub returns : goal.returns
returns c = true_in_runs c.update_law.ensures
