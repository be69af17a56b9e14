-- A formula reads no element beyond those of its indices.
use Rattle.std.proofs.Common.{◌≡◌, ℕ, not, List, [], ◌∷◌, ◌++◌, length, refl, ap, ◌∙◌, arith, length-append}
use Rattle.std.proofs.lemmas.List.{get_or_append_left}
use Rattle.fol_sig.specs.Tables.{Reading}
use Rattle.fol_sig.specs.Symbols.{Symbols}
use Rattle.fol_formula.specs.Syntax.{FormTree, FormTrees, TermTree, TermTrees, top, bottom, rel, equal, negation}
use Rattle.fol_formula.specs.Syntax.{conjunction, disjunction, implication, equivalence, for_all, for_some, no_forms}
use Rattle.fol_formula.specs.Syntax.{form_then, bound, app, ite, no_terms, term_then}
use Rattle.fol_formula.specs.Truth.{truth, all_true, any_true, value, values}
use Rattle.fol_formula.specs.Fits.{FitsForm, FitsForms, FitsTerm, FitsTerms, BoundForm, BoundForms, BoundTerm}
use Rattle.fol_formula.specs.Fits.{BoundTerms}
use Rattle.fol_formula.specs.Closed.{FitsIsBound, FitsIsBoundTerm, TruthReadsNoMore, ValueReadsNoMore, FitsUnderMore}
use Rattle.fol_formula.specs.Closed.{FitsUnderMoreTerm}
use Rattle.fol_formula.proofs.Below.{all_below-same, any_below-same}

module _ (sig : Symbols) where
  mutual
    pub fits_bound : (p : FormTree) (sorts : List ℕ) → FitsForm sig sorts p → BoundForm (length sorts) p
    fits_bound top sorts h = tt
    fits_bound bottom sorts h = tt
    fits_bound (rel r args) sorts h = fits_bound_terms args sorts (sig.sorts_of r) h.2
    fits_bound (equal a b) sorts h = (fits_bound_term a sorts h.0 h.1, fits_bound_term b sorts h.0 h.2)
    fits_bound (negation p) sorts h = fits_bound p sorts h
    fits_bound (conjunction ps) sorts h = fits_bound_forms ps sorts h
    fits_bound (disjunction ps) sorts h = fits_bound_forms ps sorts h
    fits_bound (implication p q) sorts h = (fits_bound p sorts h.0, fits_bound q sorts h.1)
    fits_bound (equivalence p q) sorts h = (fits_bound p sorts h.0, fits_bound q sorts h.1)
    fits_bound (for_all k p) sorts h = fits_bound p (k ∷ sorts) h.1
    fits_bound (for_some k p) sorts h = fits_bound p (k ∷ sorts) h.1

    pub fits_bound_forms : (ps : FormTrees) (sorts : List ℕ) → FitsForms sig sorts ps → BoundForms (length sorts) ps
    fits_bound_forms no_forms sorts h = tt
    fits_bound_forms (form_then p ps) sorts h = (fits_bound p sorts h.0, fits_bound_forms ps sorts h.1)

    pub fits_bound_term : (t : TermTree) (sorts : List ℕ) (k : ℕ) → FitsTerm sig sorts t k → BoundTerm (length sorts) t
    fits_bound_term (bound i) sorts k h = h.0
    fits_bound_term (app f args) sorts k h = fits_bound_terms args sorts (sig.from_of f) h.3
    fits_bound_term (ite p a b) sorts k h =
        (fits_bound p sorts h.0, fits_bound_term a sorts k h.1, fits_bound_term b sorts k h.2)

    pub fits_bound_terms : (ts : TermTrees) (sorts ks : List ℕ) → FitsTerms sig sorts ts ks
        → BoundTerms (length sorts) ts
    fits_bound_terms no_terms sorts ks h = tt
    fits_bound_terms (term_then t ts) sorts [] h = absurd h
    fits_bound_terms (term_then t ts) sorts (k ∷ ks) h =
        (fits_bound_term t sorts k h.0, fits_bound_terms ts sorts ks h.1)

module _ (s : Reading) (more : List ℕ) where
  mutual
    pub truth-more : (p : FormTree) (env : List ℕ) → BoundForm (length env) p → truth s p (env ++ more) ≡ truth s p env
    truth-more top env h = refl
    truth-more bottom env h = refl
    truth-more (rel r args) env h = ap (s.rel r) (values-more args env h)
    truth-more (equal a b) env h = let e1 = value-more a env h.0 in let e2 = value-more b env h.1 in cc (e1, e2)
    truth-more (negation p) env h = ap not (truth-more p env h)
    truth-more (conjunction ps) env h = all_true-more ps env h
    truth-more (disjunction ps) env h = any_true-more ps env h
    truth-more (implication p q) env h = let e1 = truth-more p env h.0 in let e2 = truth-more q env h.1 in cc (e1, e2)
    truth-more (equivalence p q) env h = let e1 = truth-more p env h.0 in let e2 = truth-more q env h.1 in cc (e1, e2)
    truth-more (for_all k p) env h = all_below-same (s.size k) _ _ (λ x lt. truth-more p (x ∷ env) h)
    truth-more (for_some k p) env h = any_below-same (s.size k) _ _ (λ x lt. truth-more p (x ∷ env) h)

    all_true-more : (ps : FormTrees) (env : List ℕ) → BoundForms (length env) ps
        → all_true s ps (env ++ more) ≡ all_true s ps env
    all_true-more no_forms env h = refl
    all_true-more (form_then p ps) env h = let e1 = truth-more p env h.0 in let e2 = all_true-more ps env h.1 in
        cc (e1, e2)

    any_true-more : (ps : FormTrees) (env : List ℕ) → BoundForms (length env) ps
        → any_true s ps (env ++ more) ≡ any_true s ps env
    any_true-more no_forms env h = refl
    any_true-more (form_then p ps) env h = let e1 = truth-more p env h.0 in let e2 = any_true-more ps env h.1 in
        cc (e1, e2)

    pub value-more : (t : TermTree) (env : List ℕ) → BoundTerm (length env) t → value s t (env ++ more) ≡ value s t env
    value-more (bound i) env h = get_or_append_left env more 0 i h
    value-more (app f args) env h = ap (s.fun f) (values-more args env h)
    value-more (ite p a b) env h = let e1 = truth-more p env h.0 in let e2 = value-more a env h.1 in
        let e3 = value-more b env h.2 in cc (e1, e2, e3)

    values-more : (ts : TermTrees) (env : List ℕ) → BoundTerms (length env) ts
        → values s ts (env ++ more) ≡ values s ts env
    values-more no_terms env h = refl
    values-more (term_then t ts) env h = let e1 = value-more t env h.0 in let e2 = values-more ts env h.1 in cc (e1, e2)

module _ (sig : Symbols) (more : List ℕ) where
  mutual
    pub fits-more : (p : FormTree) (sorts : List ℕ) → FitsForm sig sorts p → FitsForm sig (sorts ++ more) p
    fits-more top sorts h = tt
    fits-more bottom sorts h = tt
    fits-more (rel r args) sorts h = (h.0, h.1, fits-more_terms args sorts (sig.sorts_of r) h.2)
    fits-more (equal a b) sorts h = (h.0, fits-more_term a sorts h.0 h.1, fits-more_term b sorts h.0 h.2)
    fits-more (negation p) sorts h = fits-more p sorts h
    fits-more (conjunction ps) sorts h = fits-more_forms ps sorts h
    fits-more (disjunction ps) sorts h = fits-more_forms ps sorts h
    fits-more (implication p q) sorts h = (fits-more p sorts h.0, fits-more q sorts h.1)
    fits-more (equivalence p q) sorts h = (fits-more p sorts h.0, fits-more q sorts h.1)
    fits-more (for_all k p) sorts h = (h.0, fits-more p (k ∷ sorts) h.1)
    fits-more (for_some k p) sorts h = (h.0, fits-more p (k ∷ sorts) h.1)

    fits-more_forms : (ps : FormTrees) (sorts : List ℕ) → FitsForms sig sorts ps → FitsForms sig (sorts ++ more) ps
    fits-more_forms no_forms sorts h = tt
    fits-more_forms (form_then p ps) sorts h = (fits-more p sorts h.0, fits-more_forms ps sorts h.1)

    pub fits-more_term : (t : TermTree) (sorts : List ℕ) (k : ℕ) → FitsTerm sig sorts t k
        → FitsTerm sig (sorts ++ more) t k
    fits-more_term (bound i) sorts k h =
        (omega (arith, h.0, length-append sorts more), get_or_append_left sorts more 0 i h.0 ∙ h.1)
    fits-more_term (app f args) sorts k h = (h.0, h.1, h.2, fits-more_terms args sorts (sig.from_of f) h.3)
    fits-more_term (ite p a b) sorts k h =
        (fits-more p sorts h.0, fits-more_term a sorts k h.1, fits-more_term b sorts k h.2)

    fits-more_terms : (ts : TermTrees) (sorts ks : List ℕ) → FitsTerms sig sorts ts ks
        → FitsTerms sig (sorts ++ more) ts ks
    fits-more_terms no_terms sorts [] h = tt
    fits-more_terms no_terms sorts (k ∷ ks) h = absurd h
    fits-more_terms (term_then t ts) sorts [] h = absurd h
    fits-more_terms (term_then t ts) sorts (k ∷ ks) h = (fits-more_term t sorts k h.0, fits-more_terms ts sorts ks h.1)

pub fits_is_bound : FitsIsBound
fits_is_bound sig sorts p h = fits_bound sig p sorts h

pub fits_is_bound_term : FitsIsBoundTerm
fits_is_bound_term sig sorts t k h = fits_bound_term sig t sorts k h

pub truth_reads_no_more : TruthReadsNoMore
truth_reads_no_more s p env more h = truth-more s more p env h

pub value_reads_no_more : ValueReadsNoMore
value_reads_no_more s t env more h = value-more s more t env h

pub fits_under_more : FitsUnderMore
fits_under_more sig p sorts more h = fits-more sig more p sorts h

pub fits_under_more_term : FitsUnderMoreTerm
fits_under_more_term sig t sorts more k h = fits-more_term sig more t sorts k h
