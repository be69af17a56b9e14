use Rattle.rml_reasons.proofs.Holding.{carried_groups_hold}
use Rattle.rml_reasons.proofs.laws.reason_law.Goals as goal

pub returns : goal.returns
returns c = carried_groups_hold
