-- A formula that fits has one truth in structures that agree.
use Rattle.std.proofs.Common.{◌≡◌, ℕ, ◌<◌, Bool, true, false, not, cond, List, [], ◌∷◌, get_or, refl, sym, ap, ◌∙◌}
use Rattle.std.proofs.Common.{subst}
use Rattle.fol_sig.specs.Tables.{Reading, InRange, Tables, reading, fun_at, size_at}
use Rattle.fol_sig.specs.Ranges.{RangesAreAlong, FunctionsStayInRange}
use Rattle.fol_formula.specs.Syntax.{FormTree, FormTrees, TermTree, TermTrees, top, bottom, rel, equal, negation}
use Rattle.fol_formula.specs.Syntax.{conjunction, disjunction, implication, equivalence, for_all, for_some, no_forms}
use Rattle.fol_formula.specs.Syntax.{form_then, bound, app, ite, no_terms, term_then}
use Rattle.fol_formula.specs.Truth.{truth, all_true, any_true, value, values}
use Rattle.fol_formula.specs.Fits.{FitsForm, FitsForms, FitsTerm, FitsTerms}
use Rattle.fol_sig.specs.Symbols.{Symbols, FitsStructure}
use Rattle.fol_formula.proofs.Below.{all_below-within, any_below-within}
use Rattle.fol_formula.specs.Agree.{Agree, TruthAgrees, ValuesAgree, ValuesAreInRange}

either_below : (c : Bool) (x y n : ℕ) → x < n → y < n → cond c x y < n
either_below true x y n p q = p
either_below false x y n p q = q

module _ (along : RangesAreAlong) (sig : Symbols) (sizes : List ℕ) (a b : Reading) (agree : Agree sig sizes a b) where
  record SameValue (t : TermTree) (env : List ℕ) (k : ℕ) : Type 0 where
    same : value a t env ≡ value b t env
    within : value a t env < get_or sizes k 0

  record SameValues (ts : TermTrees) (env ks : List ℕ) : Type 0 where
    same : values a ts env ≡ values b ts env
    within : InRange sizes ks (values a ts env)

  mutual
    truth-agree : (p : FormTree) (sorts env : List ℕ) → FitsForm sig sorts p → InRange sizes sorts env
        → truth a p env ≡ truth b p env
    truth-agree top sorts env h e = refl
    truth-agree bottom sorts env h e = refl
    truth-agree (rel r args) sorts env h e =
        let v = values-agree args sorts env (sig.sorts_of r) h.2 e in
        agree.rel r (values a args env) h.0 v.within ∙ ap (b.rel r) v.same
    truth-agree (equal s t) sorts env h e =
        let v = (value-agree s sorts env h.0 h.1 e).same in let w = (value-agree t sorts env h.0 h.2 e).same in
        cc (v, w)
    truth-agree (negation p) sorts env h e = ap not (truth-agree p sorts env h e)
    truth-agree (conjunction ps) sorts env h e = all_true-agree ps sorts env h e
    truth-agree (disjunction ps) sorts env h e = any_true-agree ps sorts env h e
    truth-agree (implication p q) sorts env h e = let v = truth-agree p sorts env h.0 e in
        let w = truth-agree q sorts env h.1 e in cc (v, w)
    truth-agree (equivalence p q) sorts env h e = let v = truth-agree p sorts env h.0 e in
        let w = truth-agree q sorts env h.1 e in cc (v, w)
    truth-agree (for_all k p) sorts env h e =
        all_below-within (a.size k) (b.size k) (λ x. truth a p (x ∷ env)) (λ x. truth b p (x ∷ env))
        (agree.size k h.0 ∙ sym (agree.same_size k h.0))
        (λ x lt. truth-agree p (k ∷ sorts) (x ∷ env) h.1 (subst (λ n. x < n) (agree.size k h.0) lt, e))
    truth-agree (for_some k p) sorts env h e =
        any_below-within (a.size k) (b.size k) (λ x. truth a p (x ∷ env)) (λ x. truth b p (x ∷ env))
        (agree.size k h.0 ∙ sym (agree.same_size k h.0))
        (λ x lt. truth-agree p (k ∷ sorts) (x ∷ env) h.1 (subst (λ n. x < n) (agree.size k h.0) lt, e))

    all_true-agree : (ps : FormTrees) (sorts env : List ℕ) → FitsForms sig sorts ps → InRange sizes sorts env
        → all_true a ps env ≡ all_true b ps env
    all_true-agree no_forms sorts env h e = refl
    all_true-agree (form_then p ps) sorts env h e = let v = truth-agree p sorts env h.0 e in
        let w = all_true-agree ps sorts env h.1 e in cc (v, w)

    any_true-agree : (ps : FormTrees) (sorts env : List ℕ) → FitsForms sig sorts ps → InRange sizes sorts env
        → any_true a ps env ≡ any_true b ps env
    any_true-agree no_forms sorts env h e = refl
    any_true-agree (form_then p ps) sorts env h e = let v = truth-agree p sorts env h.0 e in
        let w = any_true-agree ps sorts env h.1 e in cc (v, w)

    value-agree : (t : TermTree) (sorts env : List ℕ) (k : ℕ) → FitsTerm sig sorts t k → InRange sizes sorts env
        → SameValue t env k
    value-agree (bound i) sorts env k h e =
        record {
          same = refl;
          within = subst (λ m. get_or env i 0 < get_or sizes m 0) h.1
              ((along sizes sorts env e).each i h.0);
        }
    value-agree (app f args) sorts env k h e =
        let v = values-agree args sorts env (sig.from_of f) h.3 e in
        record {
          same = agree.fun f (values a args env) h.0 v.within ∙ ap (b.fun f) v.same;
          within = subst (λ m. a.fun f (values a args env) < get_or sizes m 0) h.1
              (agree.within f (values a args env) h.0 v.within);
        }
    value-agree (ite p s t) sorts env k h e =
        let c = truth-agree p sorts env h.0 e in
        let v = value-agree s sorts env k h.1 e in
        let w = value-agree t sorts env k h.2 e in
        let same1 = v.same in let same2 = w.same in
        record {
          same = cc (c, same1, same2);
          within = either_below (truth a p env) _ _ (get_or sizes k 0) v.within w.within;
        }

    values-agree : (ts : TermTrees) (sorts env ks : List ℕ) → FitsTerms sig sorts ts ks → InRange sizes sorts env
        → SameValues ts env ks
    values-agree no_terms sorts env [] h e = record { same = refl; within = tt }
    values-agree no_terms sorts env (k ∷ ks) h e = absurd h
    values-agree (term_then t ts) sorts env [] h e = absurd h
    values-agree (term_then t ts) sorts env (k ∷ ks) h e =
        let v = value-agree t sorts env k h.0 e in
        let w = values-agree ts sorts env ks h.1 e in
        let same1 = v.same in let same2 = w.same in
        record { same = cc (same1, same2); within = (v.within, w.within) }

pub truth_agrees : RangesAreAlong → TruthAgrees
truth_agrees along sig sizes a b p sorts env agree h e = truth-agree along sig sizes a b agree p sorts env h e

pub values_agree : RangesAreAlong → ValuesAgree
values_agree along sig sizes a b t sorts env k agree h e =
    (value-agree along sig sizes a b agree t sorts env k h e).same

-- a structure's reading agrees with itself
reading-agree : FunctionsStayInRange → (sig : Symbols) (s : Tables) → FitsStructure sig s
    → Agree sig s.sizes (reading s) (reading s)
reading-agree stay sig s f = record {
  size = λ k lt. refl;
  same_size = λ k lt. refl;
  rel = λ r xs lt h. refl;
  fun = λ g xs lt h. refl;
  within = λ g xs lt h.
      subst (λ m. fun_at s g xs < size_at s m) (sym (f.into_of g lt))
      (stay s g xs f.whole (subst (λ n. g < n) f.functions lt)
      (subst (λ ks. InRange s.sizes ks xs) (f.from_of g lt) h));
}

pub values_in_range : RangesAreAlong → FunctionsStayInRange → ValuesAreInRange
values_in_range along stay sig s t sorts env k f h e =
    (value-agree along sig s.sizes (reading s) (reading s) (reading-agree stay sig s f) t sorts env k h e).within
