use Rattle.rml_command.proofs.InductiveRuns.{true_conjectures}
use Rattle.rml_command.proofs.laws.inductive_law.Goals as goal

pub returns : goal.returns
returns c = true_conjectures c.invariant_law.ensures
