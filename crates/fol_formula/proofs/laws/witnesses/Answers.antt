use Rattle.fol_formula.proofs.Witnessed.{witnessed_is_true, without_existentials, universal_needs_no_witness}
use Rattle.fol_formula.proofs.Witnessed.{universal_normal_needs_no_witness}
use Rattle.fol_formula.proofs.WitnessesExist.{witnesses_exist}
use Rattle.fol_formula.proofs.laws.witnesses.Goals as goal

pub returns-clause-sound : goal.returns-clause-sound
returns-clause-sound c = witnessed_is_true

pub returns-clause-exist : goal.returns-clause-exist
returns-clause-exist c = witnesses_exist

pub returns-clause-none : goal.returns-clause-none
returns-clause-none c = without_existentials

pub returns-clause-universal : goal.returns-clause-universal
returns-clause-universal c = universal_needs_no_witness

pub returns-clause-normal : goal.returns-clause-normal
returns-clause-normal c = universal_normal_needs_no_witness
