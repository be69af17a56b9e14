use Rattle.rml_command.proofs.Following.{following_law}
use Rattle.rml_command.proofs.PathLaw.{path_aborts, path_ends}
use Rattle.rml_command.proofs.AbortLast.{paths_end_at_abort}
use Rattle.rml_command.proofs.Elements.{traces_are_elements}
use Rattle.rml_command.proofs.laws.path_law.Goals as goal

pub returns-clause-followed : goal.returns-clause-followed
returns-clause-followed c = following_law c.tuple_set_laws.ensures.tuples

pub returns-clause-kind : goal.returns-clause-kind
returns-clause-kind c = record { aborts = path_aborts; ends = path_ends }

pub returns-clause-last : goal.returns-clause-last
returns-clause-last c = paths_end_at_abort

pub returns-clause-elements : goal.returns-clause-elements
returns-clause-elements c = traces_are_elements
