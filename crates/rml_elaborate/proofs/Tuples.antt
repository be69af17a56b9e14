-- The parameters of an update, and how many arguments a tuple has.
use Rattle.std.proofs.Common.{◌≡◌, ◌<◌, ◌-◌, ℕ, zero, suc, List, [], ◌∷◌, ◌++◌, length, map, refl, sym, ap, ◌∙◌, arith}
use Rattle.fol_formula.specs.Syntax.{FormTree, TermTrees, bound, term_then, terms_then, size_of}
use Rattle.fol_formula.specs.View.{term}
use Rattle.fol_formula.specs.declared.Term.{Term}
use Rattle.fol_formula.specs.Lists.{TermLists}
use Rattle.rml_terms.specs.declared.tree.Expr.{Expr}
use Rattle.rml_terms.specs.Tree.{expr_trees, exprs_of}
use Rattle.rml_command.specs.Fresh.{parameters}
use Rattle.rml_names.specs.Vocabulary.{Vocabulary}
use Rattle.rml_names.specs.Meanings.{BoundName}
use Rattle.rml_elaborate.specs.Formulas.{terms_of}

-- one parameter more
parameters-more : (n : ℕ) → 0 < n → parameters n ≡ term_then (bound (n - 1)) (parameters (n - 1))
parameters-more zero h = absurd (omega arith)
parameters-more (suc n) h =
    let e : n ≡ suc n - 1 = omega arith in
    ap (λ (k : ℕ). term_then (bound k) (parameters k)) e

pub parameters_turn : TermLists → (n : ℕ) (all more : List Term) (t : Term) (whole : TermTrees) → 0 < n
    → more ≡ all ++ t ∷ [] → term t ≡ bound (n - 1)
    → terms_then (map term all) (parameters n) ≡ whole → terms_then (map term more) (parameters (n - 1)) ≡ whole
parameters_turn lists n all more t whole some pushed made before =
    let rest = parameters (n - 1) in
    ap (λ z. terms_then (map term z) rest) pushed
    ∙ lists.pushed all t rest
    ∙ ap (λ z. terms_then (map term all) (term_then z rest)) made
    ∙ ap (terms_then (map term all)) (sym (parameters-more n some))
    ∙ before

-- there is a term for each expression
module _ (text : List ℕ) (v : Vocabulary) (bodies : List FormTree) (bs : List BoundName) where
  pub terms_counted : (es : List Expr) → size_of (terms_of text v bodies bs (exprs_of (expr_trees es))) ≡ length es
  terms_counted [] = refl
  terms_counted (e ∷ es) = ap suc (terms_counted es)
