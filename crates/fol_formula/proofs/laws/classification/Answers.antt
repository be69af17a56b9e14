use Rattle.fol_formula.proofs.NormalForms.{universal_by_normal_form, exists_forall_by_normal_form}
use Rattle.fol_formula.proofs.NormalForms.{normal_form_keeps_truth, normal_form_stays}
use Rattle.fol_formula.proofs.laws.classification.Goals as goal

pub returns-clause-universal : goal.returns-clause-universal
returns-clause-universal c = universal_by_normal_form

pub returns-clause-exists_forall : goal.returns-clause-exists_forall
returns-clause-exists_forall c = exists_forall_by_normal_form

pub returns-clause-truth : goal.returns-clause-truth
returns-clause-truth c = normal_form_keeps_truth

pub returns-clause-stays : goal.returns-clause-stays
returns-clause-stays c = normal_form_stays
