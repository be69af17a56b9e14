use Rattle.model_names.proofs.Naming.{names_are_words}
use Rattle.model_names.proofs.laws.names_law.Goals as goal

pub returns : goal.returns
returns c = names_are_words
