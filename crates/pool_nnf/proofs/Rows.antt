-- A row of formulas, and the list of them.
use Rattle.std.proofs.Common.{◌≡◌, refl, ap}
use Rattle.fol_formula.specs.Syntax.{FormTrees, no_forms, form_then, forms_of, list_of_forms}

pub forms_listed : (ps : FormTrees) → forms_of (list_of_forms ps) ≡ ps
forms_listed no_forms = refl
forms_listed (form_then p ps) = ap (form_then p) (forms_listed ps)
