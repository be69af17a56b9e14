-- The values of the terms, sort by sort.
use Rattle.std.proofs.Common.{◌≡◌, ℕ, zero, suc, ◌<◌, true, false, ◌==◌, cond, List, [], ◌∷◌}
use Rattle.std.proofs.Common.{get_or, refl, sym, ap, ◌∙◌, subst, arith, ⊎_elim}
use Rattle.std.specs.Prelude.{All}
use Rattle.std.proofs.lemmas.Bool.{cond-true, cond-false, or_cases, or_left, or_right, false≢true, eqb-true, eq-eqb}
use Rattle.std.proofs.lemmas.Bool.{ne_eqb}
use Rattle.fol_sig.specs.Tables.{Tables, InRange, reading, AreSorts, fun_at, size_at}
use Rattle.fol_sig.specs.Symbols.{Symbols, FitsStructure, AreSorted}
use Rattle.fol_sig.specs.Ranges.{FunctionsStayInRange}
use Rattle.fol_sig.specs.Tuples.{TuplesAreNumbered}
use Rattle.fol_sig.specs.Strata.{has, AreInOrder, IsStrata}
use Rattle.ground_terms.specs.Terms.{PlainTerm, default_constant, application, Lists, term_at, term_counts, AreClosed}
use Rattle.ground_terms.specs.Terms.{IsTermAt}
use Rattle.ground_terms.specs.Numberings.{numbering}
use Rattle.ground_terms.specs.Values.{Elements, elements_of, value_of_term, values_in_order, term_values, AreValues}
use Rattle.ground_terms.specs.Values.{StructuresGiveValues}
use Rattle.ground_terms.proofs.Numbers.{is-term, term-place}
use Rattle.ground_terms.proofs.Firsts.{is_placed}

All-tail : (P : ℕ → Type 0) (k : ℕ) (ks : List ℕ) → All P (k ∷ ks) → All P ks
All-tail P k ks h i d lt = h (suc i) d (omega arith)

module _ (stay : FunctionsStayInRange) (sig : Symbols) (lists : Lists) (s : Tables) (sorted : AreSorted sig)
    (closed : AreClosed sig lists) (fits : FitsStructure sig s) where
  -- the sorts that are done have their values
  record IsDone (done : List ℕ) (v : Elements) : Type 0 where
    values : (k x : ℕ) → k < sig.sorts → has done k ≡ true → x < get_or (term_counts lists) k 0
        → v k x ≡ value_of_term sig (reading s) v (term_at lists k x)
    within : (k x : ℕ) → k < sig.sorts → has done k ≡ true → x < get_or (term_counts lists) k 0 → v k x < size_at s k
    before : (f : ℕ) → f < sig.functions → has done (sig.into_of f) ≡ true
        → All (λ q. has done q ≡ true) (sig.from_of f)

  elements-agree : (done : List ℕ) (v w : Elements) (ks xs : List ℕ) → ((q x : ℕ) → has done q ≡ true → w q x ≡ v q x)
      → All (λ q. has done q ≡ true) ks → elements_of w ks xs ≡ elements_of v ks xs
  elements-agree done v w [] xs same h = refl
  elements-agree done v w (k ∷ ks) [] same h = refl
  elements-agree done v w (k ∷ ks) (x ∷ xs) same h =
      let e1 = same k x (h zero 0 (omega arith)) in
      let e2 = elements-agree done v w ks xs same (All-tail (λ q. has done q ≡ true) k ks h) in cc (e1, e2)

  term-agree : (done : List ℕ) (v w : Elements) (k x : ℕ) (t : PlainTerm)
      → ((q x : ℕ) → has done q ≡ true → w q x ≡ v q x)
      → ((f : ℕ) → f < sig.functions → sig.into_of f ≡ k → All (λ q. has done q ≡ true) (sig.from_of f))
      → IsTermAt sig (term_counts lists) k x t → value_of_term sig (reading s) w t ≡ value_of_term sig (reading s) v t
  term-agree done v w k x default_constant same h i = refl
  term-agree done v w k x (application f xs) same h i =
      ap ((reading s).fun f) (elements-agree done v w (sig.from_of f) xs same (h f i.0 i.1))

  elements-within : (done : List ℕ) (v : Elements) (ks xs : List ℕ) → IsDone done v → AreSorts sig.sorts ks
      → All (λ q. has done q ≡ true) ks → InRange (term_counts lists) ks xs → InRange s.sizes ks (elements_of v ks xs)
  elements-within done v [] [] d o h r = tt
  elements-within done v [] (x ∷ xs) d o h r = absurd r
  elements-within done v (k ∷ ks) [] d o h r = absurd r
  elements-within done v (k ∷ ks) (x ∷ xs) d o h r = (
    d.within k x (o zero 0 (omega arith)) (h zero 0 (omega arith)) r.0,
    elements-within done v ks xs d (All-tail (λ q. q < sig.sorts) k ks o)
        (All-tail (λ q. has done q ≡ true) k ks h) r.1,
  )

  term-within : (done : List ℕ) (v : Elements) (k x : ℕ) (t : PlainTerm) → IsDone done v → k < sig.sorts
      → ((f : ℕ) → f < sig.functions → sig.into_of f ≡ k → All (λ q. has done q ≡ true) (sig.from_of f))
      → IsTermAt sig (term_counts lists) k x t → value_of_term sig (reading s) v t < size_at s k
  term-within done v k x default_constant d lt h i = fits.whole.positive k 0 (subst (λ n. k < n) fits.sorts lt)
  term-within done v k x (application f xs) d lt h i =
      let zs = elements_of v (sig.from_of f) xs in
      let known = subst (λ n. f < n) fits.functions i.0 in
      let inside = elements-within done v (sig.from_of f) xs d (sorted.functions f i.0) (h f i.0 i.1) i.2 in
      subst (λ m. fun_at s f zs < size_at s m) (sym (fits.into_of f i.0) ∙ i.1)
      (stay s f zs fits.whole known (subst (λ ks. InRange s.sizes ks zs) (fits.from_of f i.0) inside))

  abbrev next : List ℕ → ℕ → Elements → Elements
  next done k v = λ q i. cond (q == k) (value_of_term sig (reading s) v (term_at lists k i)) (v q i)

  done-next : (done : List ℕ) (k : ℕ) (v : Elements) → IsDone done v → k < sig.sorts → has done k ≡ false
      → ((f : ℕ) → f < sig.functions → sig.into_of f ≡ k → All (λ q. has done q ≡ true) (sig.from_of f))
      → IsDone (k ∷ done) (next done k v)
  done-next done k v d lt new h =
      let w = next done k v in
      let same : (q x : ℕ) → has done q ≡ true → w q x ≡ v q x =
      λ q x old. cond-false (q == k) (value_of_term sig (reading s) v (term_at lists k x)) (v q x)
      (ne_eqb q k (λ e. false≢true (sym new ∙ ap (has done) (sym e) ∙ old))) in
      let here : (x : ℕ) → w k x ≡ value_of_term sig (reading s) v (term_at lists k x) =
      λ x. cond-true (k == k) (value_of_term sig (reading s) v (term_at lists k x)) (v k x) (eq-eqb k k refl) in
      let keep : (q : ℕ) → has done q ≡ true → has (k ∷ done) q ≡ true = λ q old. or_right (k == q) (has done q) old in
      record {
        values = λ p x lp there lx.
            ⊎_elim
            (λ is. let e = eqb-true k p is in
            subst (λ m. x < get_or (term_counts lists) m 0
            → w m x ≡ value_of_term sig (reading s) w (term_at lists m x)) e
            (λ lx. here x
            ∙ sym (term-agree done v w k x (term_at lists k x) same h (is-term sig lists closed k x lt lx))) lx)
            (λ old. same p x old ∙ d.values p x lp old lx
            ∙ sym (term-agree done v w p x (term_at lists p x) same
            (λ f lf into. d.before f lf (subst (λ m. has done m ≡ true) (sym into) old))
            (is-term sig lists closed p x lp lx)))
            (or_cases (k == p) (has done p) there);
        within = λ p x lp there lx.
            ⊎_elim
            (λ is. let e = eqb-true k p is in
            subst (λ m. x < get_or (term_counts lists) m 0 → w m x < size_at s m) e
            (λ lx. subst (λ z. z < size_at s k) (sym (here x))
            (term-within done v k x (term_at lists k x) d lt h (is-term sig lists closed k x lt lx))) lx)
            (λ old. subst (λ z. z < size_at s p) (sym (same p x old)) (d.within p x lp old lx))
            (or_cases (k == p) (has done p) there);
        before = λ f lf there i dflt li.
            ⊎_elim
            (λ is. keep (get_or (sig.from_of f) i dflt) (h f lf (sym (eqb-true k (sig.into_of f) is)) i dflt li))
            (λ old. keep (get_or (sig.from_of f) i dflt) (d.before f lf old i dflt li))
            (or_cases (k == sig.into_of f) (has done (sig.into_of f)) there);
      }

  record AllDone (done order : List ℕ) (v : Elements) : Type 0 where
    sorts : List ℕ
    is : IsDone sorts v
    old : (k : ℕ) → has done k ≡ true → has sorts k ≡ true
    new : (k : ℕ) → has order k ≡ true → has sorts k ≡ true

  all-done : (order done : List ℕ) (v : Elements) → AreInOrder sig done order → All (λ k. k < sig.sorts) order
      → IsDone done v → AllDone done order (values_in_order sig lists (reading s) order v)
  all-done [] done v o lt d = record { sorts = done; is = d; old = λ k h. h; new = λ k h. absurd (false≢true h) }
  all-done (k ∷ order) done v o lt d =
      let rest = all-done order (k ∷ done) (next done k v) o.2 (All-tail (λ k. k < sig.sorts) k order lt)
      (done-next done k v d (lt zero 0 (omega arith)) o.0 o.1) in
      record {
        sorts = rest.sorts;
        is = rest.is;
        old = λ p h. rest.old p (or_right (k == p) (has done p) h);
        new = λ p h. ⊎_elim (λ is. rest.old p (or_left (k == p) (has done p) is)) (λ more. rest.new p more)
            (or_cases (k == p) (has order p) h);
      }

  pub record AreValued (v : Elements) : Type 0 where
    pub values : AreValues sig lists s v
    pub within : (k x : ℕ) → k < sig.sorts → x < get_or (term_counts lists) k 0 → v k x < size_at s k

  pub are-valued : (order : List ℕ) → IsStrata sig order → AreValued (term_values sig lists order (reading s))
  are-valued order strata =
      let all = all-done order [] (λ k i. 0) strata.ordered strata.sorts
      (record {
        values = λ k x lt none lx. absurd (false≢true none);
        within = λ k x lt none lx. absurd (false≢true none);
        before = λ f lf none. absurd (false≢true none);
      }) in
      let d = all.is in
      record {
        values = λ k x lt lx. d.values k x lt (all.new k (strata.whole k lt)) lx;
        within = λ k x lt lx. d.within k x lt (all.new k (strata.whole k lt)) lx;
      }

pub structures_give_values : FunctionsStayInRange → TuplesAreNumbered → StructuresGiveValues
structures_give_values stay numbered sig order lists s sorted strata closed fits =
    let v = term_values sig lists order (reading s) in
    let valued = are-valued stay sig lists s sorted closed fits order strata in
    record {
      values = valued.values;
      realises = record {
        within = valued.within;
        applied = λ f xs lt h.
            valued.values (sig.into_of f) ((numbering sig lists).place f xs) (sorted.into f lt)
            (is_placed numbered sig lists f xs sorted closed lt h).within
            ∙ ap (value_of_term sig (reading s) v) (term-place sig lists closed f xs sorted lt h);
        related = λ r xs lt h. refl;
        equal = λ k x y lt lx ly. refl;
      };
    }
