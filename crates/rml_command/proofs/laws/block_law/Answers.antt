use Rattle.rml_command.proofs.PathLaw.{path_law}
use Rattle.rml_command.proofs.laws.block_law.Goals as goal

pub returns : goal.returns
returns c = path_law
