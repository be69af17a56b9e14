use Rattle.rml_command.proofs.Induction.{induction}
use Rattle.rml_command.proofs.laws.run_law.Goals as goal

pub returns : goal.returns
returns c = induction c.tuple_set_laws.ensures.tuples c.update_law.ensures
