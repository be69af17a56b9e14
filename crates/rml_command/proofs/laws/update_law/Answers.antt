use Rattle.rml_command.proofs.Updates.{updates_keep_symbols}
use Rattle.rml_command.proofs.laws.update_law.Goals as goal

pub returns : goal.returns
returns c =
    updates_keep_symbols c.update_laws.ensures.relations c.update_laws.ensures.functions c.agreement.ensures.in_range
