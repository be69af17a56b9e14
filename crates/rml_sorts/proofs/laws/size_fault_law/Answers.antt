use Rattle.rml_sorts.proofs.SizesStand.{size_faults_stand}
use Rattle.rml_sorts.proofs.laws.size_fault_law.Goals as goal

pub returns : goal.returns
returns c = size_faults_stand
