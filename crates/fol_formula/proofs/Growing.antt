-- What fits the symbols fits the grown ones.
use Rattle.std.proofs.Common.{ℕ, ◌<◌, ◌≤◌, List, [], ◌∷◌, length, sym, ◌∙◌, subst, arith}
use Rattle.fol_sig.specs.Symbols.{Symbols}
use Rattle.fol_sig.specs.Growing.{Grows}
use Rattle.fol_formula.specs.Syntax.{FormTree, FormTrees, TermTree, TermTrees, top, bottom, rel, equal, negation}
use Rattle.fol_formula.specs.Syntax.{conjunction, disjunction, implication, equivalence, for_all, for_some, no_forms}
use Rattle.fol_formula.specs.Syntax.{form_then, bound, app, ite, no_terms, term_then}
use Rattle.fol_formula.specs.Fits.{FitsForm, FitsForms, FitsTerm, FitsTerms}
use Rattle.fol_formula.specs.Growing.{FittingIsKept}

module _ (sig more : Symbols) (g : Grows sig more) where
  mutual
    form-fits : (p : FormTree) (sorts : List ℕ) → FitsForm sig sorts p → FitsForm more sorts p
    form-fits top sorts h = tt
    form-fits bottom sorts h = tt
    form-fits (rel r args) sorts h = (
      omega (arith, h.0, g.relations),
      subst (λ (ks : List ℕ). length ks ≤ 8) (sym (g.sorts_of r h.0)) h.1,
      subst (FitsTerms more sorts args) (sym (g.sorts_of r h.0)) (terms-fit args sorts (sig.sorts_of r) h.2),
    )
    form-fits (equal a b) sorts h = (h.0, term-fits a sorts h.0 h.1, term-fits b sorts h.0 h.2)
    form-fits (negation p) sorts h = form-fits p sorts h
    form-fits (conjunction ps) sorts h = forms-fit ps sorts h
    form-fits (disjunction ps) sorts h = forms-fit ps sorts h
    form-fits (implication p q) sorts h = (form-fits p sorts h.0, form-fits q sorts h.1)
    form-fits (equivalence p q) sorts h = (form-fits p sorts h.0, form-fits q sorts h.1)
    form-fits (for_all k p) sorts h = (subst (λ n. k < n) (sym g.sorts) h.0, form-fits p (k ∷ sorts) h.1)
    form-fits (for_some k p) sorts h = (subst (λ n. k < n) (sym g.sorts) h.0, form-fits p (k ∷ sorts) h.1)

    forms-fit : (ps : FormTrees) (sorts : List ℕ) → FitsForms sig sorts ps → FitsForms more sorts ps
    forms-fit no_forms sorts h = tt
    forms-fit (form_then p ps) sorts h = (form-fits p sorts h.0, forms-fit ps sorts h.1)

    term-fits : (t : TermTree) (sorts : List ℕ) (k : ℕ) → FitsTerm sig sorts t k → FitsTerm more sorts t k
    term-fits (bound i) sorts k h = h
    term-fits (app f args) sorts k h = (
      omega (arith, h.0, g.functions),
      g.into_of f h.0 ∙ h.1,
      subst (λ (ks : List ℕ). length ks ≤ 8) (sym (g.from_of f h.0)) h.2,
      subst (FitsTerms more sorts args) (sym (g.from_of f h.0)) (terms-fit args sorts (sig.from_of f) h.3),
    )
    term-fits (ite p a b) sorts k h = (form-fits p sorts h.0, term-fits a sorts k h.1, term-fits b sorts k h.2)

    terms-fit : (ts : TermTrees) (sorts ks : List ℕ) → FitsTerms sig sorts ts ks → FitsTerms more sorts ts ks
    terms-fit no_terms sorts [] h = tt
    terms-fit no_terms sorts (k ∷ ks) h = absurd h
    terms-fit (term_then t ts) sorts [] h = absurd h
    terms-fit (term_then t ts) sorts (k ∷ ks) h = (term-fits t sorts k h.0, terms-fit ts sorts ks h.1)

pub fitting_is_kept : FittingIsKept
fitting_is_kept sig more g = record {
  formulas = λ sorts p h. form-fits sig more g p sorts h;
  terms = λ sorts t k h. term-fits sig more g t sorts k h;
}
