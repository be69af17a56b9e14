use Rattle.fol_formula.specs.View.{form}
use Rattle.show_replacing.proofs.Replaceable.{variable}
use Rattle.show_replacing.proofs.replacing.tell_variable.Goals as goal

pub replace_const-replaced-requires : goal.replace_const-replaced-requires
replace_const-replaced-requires g c = variable (form c.in_ok-shadowed.field-0) c.in_ok-shadowed.ensures
