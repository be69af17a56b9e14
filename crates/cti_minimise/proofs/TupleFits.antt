-- A bound on a relation is an exists-forall sentence of each signature that has the relation.
use Rattle.std.proofs.Common.{◌≡◌, ℕ, zero, suc, ◌+◌, ◌*◌, ◌<◌, ◌≤◌, true, List, [], ◌∷◌, length, get_or, refl, sym}
use Rattle.std.proofs.Common.{ap, ◌∙◌}
use Rattle.std.proofs.Common.{subst, arith}
use Rattle.std.proofs.Math.Nat.{suc-mul}
use Rattle.std.specs.Prelude.{All}
use Rattle.std.proofs.lemmas.List.Elements.{All-get_or}
use Rattle.fol_sig.specs.Tables.{InRange, AreSorts}
use Rattle.fol_sig.specs.Symbols.{Symbols, AreSorted}
use Rattle.fol_formula.specs.Syntax.{FormTree}
use Rattle.fol_formula.specs.Fits.{FitsForm, FitsForms, FitsTerms, BoundForm}
use Rattle.fol_formula.specs.Closed.{FitsIsBound}
use Rattle.fol_formula.specs.Fragments.{IsUniversal, AreUniversal, IsExistsForall, AreExistsForall, IsEa}
use Rattle.fol_formula.specs.Fragments.{HasPlainTerms, HavePlainTerms, AreQuantifierFreeTerms}
use Rattle.cti_minimise.specs.TupleBounds.{for_each, for_some_each, for_some_tuples, variables, tuple_equations}
use Rattle.cti_minimise.specs.TupleBounds.{tuple_choices, is_one, tuple_bound}
use Rattle.cti_minimise.proofs.TupleReads.{onto, length-onto, onto-at}

-- each sort is below n
abbrev AreBelow : List ℕ → ℕ → Type 0
AreBelow [] n = Unit {0}
AreBelow (k ∷ ks) n = (k < n) × AreBelow ks n

variables-plain : (behind m : ℕ) → AreQuantifierFreeTerms (variables behind m)
variables-plain behind zero = tt
variables-plain behind (suc m) = (tt, variables-plain behind m)

equations-universal : (behind m : ℕ) → AreUniversal true (tuple_equations behind m)
equations-universal behind zero = tt
equations-universal behind (suc m) = (tt, equations-universal behind m)

equations-plain : (behind m : ℕ) → HavePlainTerms (tuple_equations behind m)
equations-plain behind zero = tt
equations-plain behind (suc m) = ((tt, tt), equations-plain behind m)

choices-universal : (m n : ℕ) → AreUniversal true (tuple_choices m n)
choices-universal m zero = tt
choices-universal m (suc n) = (equations-universal (suc n * m) m, choices-universal m n)

choices-plain : (m n : ℕ) → HavePlainTerms (tuple_choices m n)
choices-plain m zero = tt
choices-plain m (suc n) = (equations-plain (suc n * m) m, choices-plain m n)

each-universal : (ks : List ℕ) (p : FormTree) → IsUniversal true p → IsUniversal true (for_each ks p)
each-universal [] p h = h
each-universal (k ∷ ks) p h = each-universal ks p h

each-plain : (ks : List ℕ) (p : FormTree) → HasPlainTerms p → HasPlainTerms (for_each ks p)
each-plain [] p h = h
each-plain (k ∷ ks) p h = each-plain ks p h

each-exists : (ks : List ℕ) (p : FormTree) → IsUniversal true p → IsExistsForall true p
    → IsExistsForall true (for_each ks p)
each-exists [] p universal h = h
each-exists (k ∷ ks) p universal h = each-universal ks p universal

some-exists : (ks : List ℕ) (p : FormTree) → IsExistsForall true p → IsExistsForall true (for_some_each ks p)
some-exists [] p h = h
some-exists (k ∷ ks) p h = some-exists ks p h

some-plain : (ks : List ℕ) (p : FormTree) → HasPlainTerms p → HasPlainTerms (for_some_each ks p)
some-plain [] p h = h
some-plain (k ∷ ks) p h = some-plain ks p h

tuples-exist : (n : ℕ) (ks : List ℕ) (p : FormTree) → IsExistsForall true p
    → IsExistsForall true (for_some_tuples n ks p)
tuples-exist zero ks p h = h
tuples-exist (suc n) ks p h = some-exists ks (for_some_tuples n ks p) (tuples-exist n ks p h)

tuples-plain : (n : ℕ) (ks : List ℕ) (p : FormTree) → HasPlainTerms p → HasPlainTerms (for_some_tuples n ks p)
tuples-plain zero ks p h = h
tuples-plain (suc n) ks p h = some-plain ks (for_some_tuples n ks p) (tuples-plain n ks p h)

exist-equations : (behind m : ℕ) → AreExistsForall true (tuple_equations behind m)
exist-equations behind zero = tt
exist-equations behind (suc m) = (tt, exist-equations behind m)

exist-choices : (m n : ℕ) → AreExistsForall true (tuple_choices m n)
exist-choices m zero = tt
exist-choices m (suc n) = (exist-equations (suc n * m) m, exist-choices m n)

pub tuple-bounds-ea : (r : ℕ) (ks : List ℕ) (n : ℕ) → IsEa (tuple_bound r ks n)
tuple-bounds-ea r ks n =
    let m = length ks in
    let p = is_one r m n in (
      tuples-exist n ks (for_each ks p)
          (each-exists ks p (tt, choices-universal m n) (tt, exist-choices m n)),
      tuples-plain n ks (for_each ks p) (each-plain ks p (variables-plain 0 m, choices-plain m n)),
    )

module _ (sig : Symbols) where
  -- the variables behind which so many others are bound are a tuple of these sorts
  abbrev IsTuple : List ℕ → ℕ → List ℕ → Type 0
  IsTuple sorts behind ks = FitsTerms sig sorts (variables behind (length ks)) ks

  own-tuple : (ks sorts : List ℕ) → IsTuple (onto ks sorts) 0 ks
  own-tuple [] sorts = tt
  own-tuple (k ∷ ks) sorts =
      let same : 0 + length ks ≡ length ks + 0 = omega arith in
      let count = length-onto ks (k ∷ sorts) in (
        (
          omega (arith, count),
          ap (λ i. get_or (onto ks (k ∷ sorts)) i 0) same ∙ onto-at ks (k ∷ sorts) 0,
        ),
        own-tuple ks (k ∷ sorts),
      )

  behind-tuple : (xs sorts : List ℕ) (b : ℕ) (ks : List ℕ) → IsTuple sorts b ks
      → IsTuple (onto xs sorts) (length xs + b) ks
  behind-tuple xs sorts b [] h = tt
  behind-tuple xs sorts b (k ∷ ks) h =
      let same : (length xs + b) + length ks ≡ length xs + (b + length ks) = omega arith in
      let count = length-onto xs sorts in
      let lt = h.0.0 in (
        (
          omega (arith, count, lt),
          ap (λ i. get_or (onto xs sorts) i 0) same ∙ onto-at xs sorts (b + length ks) ∙ h.0.1,
        ),
        behind-tuple xs sorts b ks h.1,
      )

  equations-fit : (sorts : List ℕ) (behind : ℕ) (ks : List ℕ) → IsTuple sorts 0 ks → IsTuple sorts behind ks
      → FitsForms sig sorts (tuple_equations behind (length ks))
  equations-fit sorts behind [] own other = tt
  equations-fit sorts behind (k ∷ ks) own other =
      let none : 0 + length ks ≡ length ks = omega arith in (
        (k, subst (λ (i : ℕ). (i < length sorts) × (get_or sorts i 0 ≡ k)) none own.0, other.0),
        equations-fit sorts behind ks own.1 other.1,
      )

  module _ (ks : List ℕ) where
    -- tuples stand before the one that is bound last, and before the n tuples that are bound last
    abbrev HasTuples : ℕ → List ℕ → Type 0
    HasTuples n sorts = (j : ℕ) → j < n → IsTuple sorts (j * length ks) ks

    next-tuples : (n : ℕ) (sorts : List ℕ) → HasTuples n sorts → HasTuples (suc n) (onto ks sorts)
    next-tuples n sorts each zero lt =
        let none : 0 ≡ 0 * length ks = omega arith in
        subst (λ (b : ℕ). IsTuple (onto ks sorts) b ks) none (own-tuple ks sorts)
    next-tuples n sorts each (suc j) lt =
        let mul = suc-mul j (length ks) in
        let same : length ks + j * length ks ≡ suc j * length ks = omega (arith, mul) in
        subst (λ (b : ℕ). IsTuple (onto ks sorts) b ks) same
        (behind-tuple ks sorts (j * length ks) ks (each j (omega (arith, lt))))

    choices-fit : (n : ℕ) (sorts : List ℕ) → HasTuples (suc n) sorts → FitsForms sig sorts (tuple_choices (length ks) n)
    choices-fit zero sorts each = tt
    choices-fit (suc n) sorts each =
        let none : 0 * length ks ≡ 0 = omega arith in (
          equations-fit sorts (suc n * length ks) ks
              (subst (λ (b : ℕ). IsTuple sorts b ks) none (each 0 (omega arith))) (each (suc n) (omega arith)),
          choices-fit n sorts (λ j lt. each j (omega (arith, lt))),
        )

    each-fits : (js : List ℕ) (p : FormTree) (sorts : List ℕ) → AreBelow js sig.sorts → FitsForm sig (onto js sorts) p
        → FitsForm sig sorts (for_each js p)
    each-fits [] p sorts known h = h
    each-fits (k ∷ js) p sorts known h = (known.0, each-fits js p (k ∷ sorts) known.1 h)

    some-fit : (js : List ℕ) (p : FormTree) (sorts : List ℕ) → AreBelow js sig.sorts → FitsForm sig (onto js sorts) p
        → FitsForm sig sorts (for_some_each js p)
    some-fit [] p sorts known h = h
    some-fit (k ∷ js) p sorts known h = (known.0, some-fit js p (k ∷ sorts) known.1 h)

    tuples-fit : (n done : ℕ) (p : FormTree) (sorts : List ℕ) → AreBelow ks sig.sorts → HasTuples done sorts
        → ((all : List ℕ) → HasTuples (n + done) all → FitsForm sig all p) → FitsForm sig sorts (for_some_tuples n ks p)
    tuples-fit zero done p sorts known each fits = fits sorts (λ j lt. each j (omega (arith, lt)))
    tuples-fit (suc n) done p sorts known each fits =
        some-fit ks (for_some_tuples n ks p) sorts known
        (tuples-fit n (suc done) p (onto ks sorts) known (next-tuples done sorts each)
        (λ all h. fits all (λ j lt. h j (omega (arith, lt)))))

    one-fits : (r n : ℕ) (sorts : List ℕ) → r < sig.relations → length ks ≤ 8 → sig.sorts_of r ≡ ks
        → HasTuples (suc n) sorts → FitsForm sig sorts (is_one r (length ks) n)
    one-fits r n sorts known short is each =
        let none : 0 * length ks ≡ 0 = omega arith in
        let own = subst (λ (b : ℕ). IsTuple sorts b ks) none (each 0 (omega arith)) in
        let few : length (sig.sorts_of r) ≤ 8 = subst (λ (js : List ℕ). length js ≤ 8) (sym is) short in
        let args = subst (λ (js : List ℕ). FitsTerms sig sorts (variables 0 (length ks)) js) (sym is) own in
        ((known, few, args), choices-fit n sorts each)

  below-by-recursion : (ks : List ℕ) (n : ℕ) → AreSorts n ks → AreBelow ks n
  below-by-recursion ks n h = below ks (λ i lt. All-get_or (λ k. k < n) ks i 0 lt h)
    where
      below : (js : List ℕ) → ((i : ℕ) → i < length js → get_or js i 0 < n) → AreBelow js n
      below [] each = tt
      below (j ∷ js) each = (each 0 (omega arith), below js (λ i lt. each (suc i) (omega (arith, lt))))

  pub tuple-bounds-fit : (r n : ℕ) → AreSorted sig → r < sig.relations
      → FitsForm sig [] (tuple_bound r (sig.sorts_of r) n)
  tuple-bounds-fit r n sorted known =
      let ks = sig.sorts_of r in
      let below = below-by-recursion ks sig.sorts (sorted.relations r known) in
      let short = sorted.relations_short r known in
      tuples-fit ks n 0 (for_each ks (is_one r (length ks) n)) [] below (λ j lt. absurd (omega (arith, lt)))
      (λ all each.
      each-fits ks ks (is_one r (length ks) n) all below
      (one-fits ks r n (onto ks all) known short refl
      (next-tuples ks n all (λ j lt. each j (omega (arith, lt))))))

-- a tuple of elements of these sorts: there is one, since no sort is empty
abbrev pub zeros : List ℕ → List ℕ
zeros [] = []
zeros (k ∷ ks) = 0 ∷ zeros ks

pub zeros-in-range : (sizes ks : List ℕ) → All (λ n. 0 < n) sizes → All (λ k. k < length sizes) ks
    → InRange sizes ks (zeros ks)
zeros-in-range sizes ks positive sorted = in-range ks (λ i lt. All-get_or (λ k. k < length sizes) ks i 0 lt sorted)
  where
    in-range : (js : List ℕ) → ((i : ℕ) → i < length js → get_or js i 0 < length sizes) → InRange sizes js (zeros js)
    in-range [] each = tt
    in-range (j ∷ js) each = (
      All-get_or (λ n. 0 < n) sizes j 0 (each 0 (omega arith)) positive,
      in-range js (λ i lt. each (suc i) (omega (arith, lt))),
    )

pub tuple-bound-closed : FitsIsBound → (sig : Symbols) (r n : ℕ) → AreSorted sig → r < sig.relations
    → BoundForm 0 (tuple_bound r (sig.sorts_of r) n)
tuple-bound-closed bound sig r n sorted known =
    bound sig [] (tuple_bound r (sig.sorts_of r) n) (tuple-bounds-fit sig r n sorted known)
