-- An equation that is pushed stands in front of those that are left.
use Rattle.std.proofs.Common.{◌≡◌, ℕ, suc, List, [], ◌∷◌, ◌++◌, map, ap, ◌∙◌}
use Rattle.fol_formula.specs.Syntax.{FormTree, FormTrees, equal, bound, form_then, forms_then}
use Rattle.fol_formula.specs.Lists.{FormLists}
use Rattle.fol_formula.specs.View.{form}
use Rattle.fol_formula.specs.declared.Formula.{Formula}
use Rattle.cti_minimise.specs.SizeBounds.{equations_with}

pub pushed-with : FormLists → (items new : List Formula) (f : Formula) (last l left : ℕ) (others : FormTrees)
    → new ≡ items ++ f ∷ [] → form f ≡ equal (bound l) (bound last) → suc l ≡ left
    → forms_then (map form new) (equations_with last l others)
    ≡ forms_then (map form items) (equations_with last left others)
pushed-with lists items new f last l left others pushed is next =
    let rest = equations_with last l others in
    ap (λ (xs : List Formula). forms_then (map form xs) rest) pushed ∙ lists.pushed items f rest
    ∙ ap (λ (p : FormTree). forms_then (map form items) (form_then p rest)) is
    ∙ ap (λ (n : ℕ). forms_then (map form items) (equations_with last n others)) next
