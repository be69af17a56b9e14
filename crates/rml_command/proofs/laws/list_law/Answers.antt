use Rattle.rml_command.proofs.ListLaw.{list_law}
use Rattle.rml_command.proofs.laws.list_law.Goals as goal

pub returns : goal.returns
returns c = list_law
