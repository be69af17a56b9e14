use Rattle.rml_command.proofs.Values.{values_law}
use Rattle.rml_command.proofs.laws.value_law.Goals as goal

pub returns : goal.returns
returns c = values_law
