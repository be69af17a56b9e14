-- Lists of formulas and of terms beside the rows of their trees.
use Rattle.std.proofs.Common.{◌≡◌, ℕ, suc, ◌+◌, ◌<◌, List, [], ◌∷◌, ◌++◌, length, get_or, drop, map, refl, sym, ap, ◌∙◌}
use Rattle.std.proofs.lemmas.List.{drop_more}
use Rattle.fol_sig.specs.Tables.{Reading}
use Rattle.fol_formula.specs.Syntax.{FormTree, FormTrees, TermTree, TermTrees, no_terms, form_then, term_then}
use Rattle.fol_formula.specs.Syntax.{forms_then, terms_then, forms_of, terms_of, list_of_forms, list_of, size_of}
use Rattle.fol_formula.specs.View.{form, term, forms, terms}
use Rattle.fol_formula.specs.Truth.{value, values}
use Rattle.fol_formula.specs.Lists.{FormLists, TermLists, FormTurns, TermTurns, RowsAreLists}
use Rattle.fol_formula.specs.declared.Formula.{Formula}
use Rattle.fol_formula.specs.declared.Term.{Term}

forms-left : (ps : List Formula) (i : ℕ) (p : Formula) → i < length ps → p ≡ get_or ps i p
    → forms (drop i ps) ≡ form_then (form p) (forms (drop (i + 1) ps))
forms-left ps i p lt is =
    ap forms (drop_more ps i p lt) ∙ ap (λ q. form_then (form q) (forms (drop (i + 1) ps))) (sym is)

terms-left : (ts : List Term) (i : ℕ) (t : Term) → i < length ts → t ≡ get_or ts i t
    → terms (drop i ts) ≡ term_then (term t) (terms (drop (i + 1) ts))
terms-left ts i t lt is =
    ap terms (drop_more ts i t lt) ∙ ap (λ u. term_then (term u) (terms (drop (i + 1) ts))) (sym is)

forms-pushed : (made : List Formula) (p : Formula) (rest : FormTrees)
    → forms_then (map form (made ++ p ∷ [])) rest ≡ forms_then (map form made) (form_then (form p) rest)
forms-pushed [] p rest = refl
forms-pushed (q ∷ made) p rest = ap (form_then (form q)) (forms-pushed made p rest)

terms-pushed : (made : List Term) (t : Term) (rest : TermTrees) → terms_then (map term (made ++ t ∷ [])) rest
    ≡ terms_then (map term made) (term_then (term t) rest)
terms-pushed [] t rest = refl
terms-pushed (u ∷ made) t rest = ap (term_then (term u)) (terms-pushed made t rest)

pub form_lists : FormLists
form_lists = record { left = forms-left; pushed = forms-pushed }

pub term_lists : TermLists
term_lists = record { left = terms-left; pushed = terms-pushed }

pub form_turns : FormTurns
form_turns F G ps made more i p new whole by lt is pushed one before =
    let rest = F (forms (drop (i + 1) ps)) in
    ap (λ z. forms_then (map form z) rest) pushed
    ∙ forms-pushed made new rest
    ∙ ap (λ z. forms_then (map form made) (form_then z rest)) one
    ∙ ap (forms_then (map form made)) (sym (by (form p) (forms (drop (i + 1) ps))))
    ∙ ap (λ z. forms_then (map form made) (F z)) (sym (forms-left ps i p lt is))
    ∙ before

pub term_turns : TermTurns
term_turns F G ts made more i t new whole by lt is pushed one before =
    let rest = F (terms (drop (i + 1) ts)) in
    ap (λ z. terms_then (map term z) rest) pushed
    ∙ terms-pushed made new rest
    ∙ ap (λ z. terms_then (map term made) (term_then z rest)) one
    ∙ ap (terms_then (map term made)) (sym (by (term t) (terms (drop (i + 1) ts))))
    ∙ ap (λ z. terms_then (map term made) (F z)) (sym (terms-left ts i t lt is))
    ∙ before

list_of-forms_of : (ps : List FormTree) → list_of_forms (forms_of ps) ≡ ps
list_of-forms_of [] = refl
list_of-forms_of (p ∷ ps) = ap (λ z. p ∷ z) (list_of-forms_of ps)

list_of-terms_of : (ts : List TermTree) → list_of (terms_of ts) ≡ ts
list_of-terms_of [] = refl
list_of-terms_of (t ∷ ts) = ap (λ z. t ∷ z) (list_of-terms_of ts)

size_of-terms : (ts : List Term) → size_of (terms ts) ≡ length ts
size_of-terms [] = refl
size_of-terms (t ∷ ts) = ap suc (size_of-terms ts)

values-map : (s : Reading) (ts : TermTrees) (env : List ℕ) → values s ts env ≡ map (λ t. value s t env) (list_of ts)
values-map s no_terms env = refl
values-map s (term_then t ts) env = ap (λ z. value s t env ∷ z) (values-map s ts env)

pub rows_are_lists : RowsAreLists
rows_are_lists = record {
  form_list = λ ps. list_of-forms_of (map form ps);
  term_list = λ ts. list_of-terms_of (map term ts);
  term_count = size_of-terms;
  value_list = values-map;
}
