use Rattle.fol_nnf.proofs.Plain.{one-leaf, plain_stays}
use Rattle.fol_nnf.proofs.laws.plainness.Goals as goal

pub returns-clause-terms : goal.returns-clause-terms
returns-clause-terms c = one-leaf

pub returns-clause-atoms : goal.returns-clause-atoms
returns-clause-atoms c = plain_stays
