use Rattle.fol_formula.proofs.Inclusions.{negation_exchanges, universal_is_exists_forall, universal_is_ea}
use Rattle.fol_formula.proofs.Inclusions.{universal_is_ae, normal_is_ea, normal_has_plain_terms}
use Rattle.fol_formula.proofs.Inclusions.{quantifier_free_is_universal}
use Rattle.fol_formula.proofs.laws.inclusion.Goals as goal

pub returns-clause-negation : goal.returns-clause-negation
returns-clause-negation c = negation_exchanges

pub returns-clause-prefix : goal.returns-clause-prefix
returns-clause-prefix c = universal_is_exists_forall

pub returns-clause-universal : goal.returns-clause-universal
returns-clause-universal c = universal_is_ea

pub returns-clause-universal_ae : goal.returns-clause-universal_ae
returns-clause-universal_ae c = universal_is_ae

pub returns-clause-normal : goal.returns-clause-normal
returns-clause-normal c = normal_is_ea

pub returns-clause-plain : goal.returns-clause-plain
returns-clause-plain c = normal_has_plain_terms

pub returns-clause-quantifier_free : goal.returns-clause-quantifier_free
returns-clause-quantifier_free c = quantifier_free_is_universal
