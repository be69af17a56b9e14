-- One turn of a loop that makes something of each element of a list.
use Rattle.std.proofs.Common.{◌≡◌, ℕ, ◌+◌, ◌<◌, List, [], ◌∷◌, ◌++◌, length, get_or, drop, sym, ap, ◌∙◌, map}
use Rattle.base.proofs.Lists.{drop_read}
use Rattle.fol_formula.specs.Syntax.{FormTree, FormTrees, TermTree, TermTrees, form_then, term_then, forms_then}
use Rattle.fol_formula.specs.Syntax.{terms_then}
use Rattle.fol_formula.specs.View.{form, term}
use Rattle.fol_formula.specs.declared.Formula.{Formula}
use Rattle.fol_formula.specs.declared.Term.{Term}
use Rattle.rml_terms.specs.declared.tree.Expr.{Expr}
use Rattle.rml_terms.specs.Tree.{expr_tree, expr_trees, exprs_of, and_expr}
use Rattle.fol_formula.specs.Lists.{FormLists, TermLists}

-- the expressions from a place on
pub exprs-drop : (es : List Expr) (i : ℕ) (e : Expr) → i < length es → e ≡ get_or es i e
    → exprs_of (expr_trees (drop i es)) ≡ and_expr (expr_tree e) (exprs_of (expr_trees (drop (i + 1) es)))
exprs-drop es i e lt is = ap (λ (es : List Expr). exprs_of (expr_trees es)) (drop_read es i e lt is)

-- F makes the formulas of a list
pub forms_turn : {A : Type 0} (lists : FormLists) (F : List A → FormTrees) (xs : List A) (i : ℕ) (x : A)
    (first : FormTree) (all more : List Formula) (p : Formula) (whole : FormTrees)
    → F (x ∷ drop (i + 1) xs) ≡ form_then first (F (drop (i + 1) xs)) → i < length xs → x ≡ get_or xs i x
    → more ≡ all ++ p ∷ [] → form p ≡ first
    → forms_then (map form all) (F (drop i xs)) ≡ whole → forms_then (map form more) (F (drop (i + 1) xs)) ≡ whole
forms_turn lists F xs i x first all more p whole by lt is pushed made before =
    let rest = F (drop (i + 1) xs) in
    ap (λ z. forms_then (map form z) rest) pushed
    ∙ lists.pushed all p rest
    ∙ ap (λ z. forms_then (map form all) (form_then z rest)) made
    ∙ ap (forms_then (map form all)) (sym by)
    ∙ ap (λ z. forms_then (map form all) (F z)) (sym (drop_read xs i x lt is))
    ∙ before

-- F makes the terms of a list
pub terms_turn : {A : Type 0} (lists : TermLists) (F : List A → TermTrees) (xs : List A) (i : ℕ) (x : A)
    (first : TermTree) (all more : List Term) (t : Term) (whole : TermTrees)
    → F (x ∷ drop (i + 1) xs) ≡ term_then first (F (drop (i + 1) xs)) → i < length xs → x ≡ get_or xs i x
    → more ≡ all ++ t ∷ [] → term t ≡ first
    → terms_then (map term all) (F (drop i xs)) ≡ whole → terms_then (map term more) (F (drop (i + 1) xs)) ≡ whole
terms_turn lists F xs i x first all more t whole by lt is pushed made before =
    let rest = F (drop (i + 1) xs) in
    ap (λ z. terms_then (map term z) rest) pushed
    ∙ lists.pushed all t rest
    ∙ ap (λ z. terms_then (map term all) (term_then z rest)) made
    ∙ ap (terms_then (map term all)) (sym by)
    ∙ ap (λ z. terms_then (map term all) (F z)) (sym (drop_read xs i x lt is))
    ∙ before
