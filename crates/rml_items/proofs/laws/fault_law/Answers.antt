use Rattle.rml_items.proofs.Stays.{faults_stand}
use Rattle.rml_items.proofs.laws.fault_law.Goals as goal

pub returns : goal.returns
returns c = faults_stand
