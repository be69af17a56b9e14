use Rattle.fol_formula.proofs.AgreeTruth.{truth_agrees, values_agree, values_in_range}
use Rattle.fol_formula.proofs.laws.agreement.Goals as goal

pub returns-clause-truth : goal.returns-clause-truth
returns-clause-truth c = truth_agrees c.range_laws.ensures.along

pub returns-clause-values : goal.returns-clause-values
returns-clause-values c = values_agree c.range_laws.ensures.along

pub returns-clause-in_range : goal.returns-clause-in_range
returns-clause-in_range c = values_in_range c.range_laws.ensures.along c.range_laws.ensures.values
