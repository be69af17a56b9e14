-- How many tuples a relation is true of, and the tuples that it is true of.
use Rattle.std.proofs.Common.{◌≡◌, ℕ, zero, suc, ◌+◌, ◌*◌, ◌<◌, ◌≤◌, Bool, true, List, [], ◌∷◌, length, get_or, take}
use Rattle.std.proofs.Common.{inl, inr, refl, sym, ap, ◌∙◌, subst, ⊎_elim, arith}
use Rattle.std.specs.Prelude.{count_by}
use Rattle.std.proofs.lemmas.List.{take_all}
use Rattle.std.proofs.lemmas.List.Sums.{count_by_more_yes, count_by_more_no}
use Rattle.std.proofs.lemmas.Bool.{cases_Bool, cases_lt, false≢true}
use Rattle.fol_sig.specs.Tables.{Tables, InRange, tuple_count, place_of, relation_at, rel_at}
use Rattle.fol_sig.specs.Tuples.{tuples, tuple_at, AreNumbered, TuplesAreNumbered}
use Rattle.fol_formula.specs.Quantified.{AllBelow, AnyBelow}
use Rattle.fol_formula.specs.Sentences.{is_true}
use Rattle.cti_minimise.specs.TupleBounds.{tuple_bound}
use Rattle.cti_minimise.specs.Extents.{true_tuples}
use Rattle.cti_minimise.proofs.Pigeons.{counted}
use Rattle.cti_minimise.proofs.TupleReads.{read}
use Rattle.cti_minimise.proofs.TupleTruth.{Among, AllInRange, named-tuples, tuples-named}

-- the first of n tuples that pass, the last of them first
module _ (sizes ks : List ℕ) (p : List ℕ → Bool) (numbered : AreNumbered sizes ks) where
  -- the tuple of this number
  at : (i : ℕ) → i < tuple_count sizes ks → get_or (tuples sizes ks) i [] ≡ tuple_at sizes ks i
  at i lt = numbered.listed i lt

  inside : (i : ℕ) → i < tuple_count sizes ks → i < length (tuples sizes ks)
  inside i lt = let count = numbered.count in omega (arith, lt, count)

  -- what is said of the tuples that pass among the first so many
  record Passing (i : ℕ) : Type 0 where
    passing : List (List ℕ)
    count : length passing ≡ count_by p (take i (tuples sizes ks))
    within : AllInRange sizes ks passing
    each : (j : ℕ) → j < i → p (tuple_at sizes ks j) ≡ true → Among (tuple_at sizes ks j) passing

  passing-of : (i : ℕ) → i ≤ tuple_count sizes ks → Passing i
  passing-of zero le = record { passing = []; count = refl; within = tt; each = λ j lt. absurd (omega (arith, lt)) }
  passing-of (suc i) le =
      let lt : i < tuple_count sizes ks = omega (arith, le) in
      let before = passing-of i (omega (arith, le)) in
      let next : i + 1 ≡ suc i = omega arith in
      let xs = tuple_at sizes ks i in
      let is = ap p (at i lt) in
      ⊎_elim
      (λ yes. record {
        passing = xs ∷ before.passing;
        count =
            let more = count_by_more_yes p (tuples sizes ks) i [] (inside i lt) (is ∙ yes) in
            let same = ap (λ j. count_by p (take j (tuples sizes ks))) next in
            let old = before.count in
            omega (arith, more, same, old);
        within = (numbered.tuple_within i lt, before.within);
        each = λ j below holds.
            ⊎_elim
            (λ less. inr (before.each j less holds))
            (λ ge. inl (ap (tuple_at sizes ks) (last j i below ge)))
            (cases_lt j i);
      })
      (λ no. record {
        passing = before.passing;
        count =
            let more = count_by_more_no p (tuples sizes ks) i [] (inside i lt) (is ∙ no) in
            let same = ap (λ j. count_by p (take j (tuples sizes ks))) next in
            let old = before.count in
            omega (arith, more, same, old);
        within = before.within;
        each = λ j below holds.
            ⊎_elim
            (λ less. before.each j less holds)
            (λ ge. absurd (false≢true (sym no ∙ ap (λ k. p (tuple_at sizes ks k)) (sym (last j i below ge)) ∙ holds)))
            (cases_lt j i);
      })
      (cases_Bool (p xs))
    where
      last : (j i : ℕ) → j < suc i → i ≤ j → j ≡ i
      last j i below ge = omega (arith, below, ge)

module _ (numbers : TuplesAreNumbered) (all : AllBelow) (any : AnyBelow) (t : Tables) (r : ℕ) where
  -- the number of true tuples, taken by their numbers
  counting : true_tuples t.sizes (relation_at t r)
      ≡ count_by (rel_at t r)
      (take (tuple_count t.sizes (relation_at t r).sorts) (tuples t.sizes (relation_at t r).sorts))
  counting =
      let ks = (relation_at t r).sorts in
      let numbered = numbers t.sizes ks in
      let count = numbered.count in
      ap (count_by (rel_at t r)) (sym (take_all (tuple_count t.sizes ks) (tuples t.sizes ks) (omega (arith, count))))

  pub few-tuples : (n : ℕ) → is_true t (tuple_bound r (relation_at t r).sorts n) ≡ true
      → true_tuples t.sizes (relation_at t r) ≤ n
  few-tuples n h =
      let ks = (relation_at t r).sorts in
      let numbered = numbers t.sizes ks in
      let m = length ks in
      let some = named-tuples t all any r ks n h in
      let count = numbered.count in
      let number = tuple_count t.sizes ks in
      let few = counted (rel_at t r) (tuples t.sizes ks) [] number n
      (λ j. place_of t.sizes ks (read some.0 (j * m) m)) (omega (arith, count))
      (λ x lt pass.
      let is = at t.sizes ks (rel_at t r) numbered x lt in
      let named = some.1 (tuple_at t.sizes ks x) (numbered.tuple_within x lt) (sym (ap (rel_at t r) is) ∙ pass) in
      (named.0, named.1, ap (place_of t.sizes ks) named.2 ∙ numbered.place_of_tuple x lt)) in
      let same = counting in
      omega (arith, same, few)

  pub tuples-few : (n : ℕ) (other : List ℕ) → InRange t.sizes (relation_at t r).sorts other
      → true_tuples t.sizes (relation_at t r) ≤ n → is_true t (tuple_bound r (relation_at t r).sorts n) ≡ true
  tuples-few n other some few =
      let ks = (relation_at t r).sorts in
      let numbered = numbers t.sizes ks in
      let number = tuple_count t.sizes ks in
      let them = passing-of t.sizes ks (rel_at t r) numbered number (omega arith) in
      let same = counting in
      let count = them.count in
      tuples-named t all any r ks n other them.passing some (omega (arith, few, same, count)) them.within
      (λ xs within holds.
      let is = numbered.tuple_of_place xs within in
      subst (λ (ys : List ℕ). Among ys them.passing) is
      (them.each (place_of t.sizes ks xs) (numbered.place_within xs within) (ap (rel_at t r) is ∙ holds)))
