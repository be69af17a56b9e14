use Rattle.fol_sig.proofs.Updates.{updates_relation, updates_function}
use Rattle.fol_sig.proofs.laws.update_laws.Goals as goal

pub returns : goal.returns
returns c = record { relations = updates_relation; functions = updates_function }
