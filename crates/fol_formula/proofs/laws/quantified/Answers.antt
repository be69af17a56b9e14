use Rattle.fol_formula.proofs.Below.{all_below-laws, any_below-laws}
use Rattle.fol_formula.proofs.laws.quantified.Goals as goal

pub returns-clause-all : goal.returns-clause-all
returns-clause-all c = all_below-laws

pub returns-clause-any : goal.returns-clause-any
returns-clause-any c = any_below-laws
