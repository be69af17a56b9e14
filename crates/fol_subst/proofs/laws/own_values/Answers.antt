use Rattle.fol_subst.proofs.Unchanged.{own_value_changes_nothing}
use Rattle.fol_subst.proofs.laws.own_values.Goals as goal

pub returns : goal.returns
returns c = own_value_changes_nothing
