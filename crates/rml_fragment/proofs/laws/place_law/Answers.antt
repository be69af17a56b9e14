use Rattle.rml_fragment.proofs.Standing.{faults_stand}
use Rattle.rml_fragment.proofs.laws.place_law.Goals as goal

pub returns : goal.returns
returns c = faults_stand
