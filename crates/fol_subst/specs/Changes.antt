-- What a `Replacement` stands for.
use Rattle.fol_formula.specs.View.{form, term}
use Rattle.fol_subst.specs.Replace.{Change, change_rel, change_fun, change_const}
use Rattle.fol_subst.specs.declared.replacement.Replacement.{Replacement}
use Rattle.fol_subst.specs.declared.replacement.Replacement.TheVariants.{Rel, Fun, Const}

-- what the replacement replaces, and by what, as trees
abbrev pub change_of : Replacement → Change
change_of (Rel r by) = change_rel r.0 (form by.now)
change_of (Fun g by) = change_fun g.0 (term by.now)
change_of (Const g index) = change_const g.0 index
