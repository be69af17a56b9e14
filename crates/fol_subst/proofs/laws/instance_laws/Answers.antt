use Rattle.fol_subst.proofs.Templates.{instances_fit, instances_are_quantifier_free, instances_have_plain_terms}
use Rattle.fol_subst.proofs.Templates.{other_arguments_do_not_count}
use Rattle.fol_subst.proofs.laws.instance_laws.Goals as goal

pub returns-clause-fits : goal.returns-clause-fits
returns-clause-fits c = instances_fit

pub returns-clause-quantifier_free : goal.returns-clause-quantifier_free
returns-clause-quantifier_free c = instances_are_quantifier_free

pub returns-clause-plain : goal.returns-clause-plain
returns-clause-plain c = instances_have_plain_terms c.inclusion.ensures.quantifier_free

pub returns-clause-others : goal.returns-clause-others
returns-clause-others c = other_arguments_do_not_count
