use Rattle.rml_items.proofs.Faultless.{demands_are_met}
use Rattle.rml_items.proofs.laws.met_law.Goals as goal

pub returns : goal.returns
returns c = demands_are_met
