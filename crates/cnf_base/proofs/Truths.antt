-- Truth values that are kept as the variables that are true.
use Rattle.std.proofs.Common.{◌≡◌, ℕ, zero, suc, ◌+◌, ◌-◌, ◌<◌, ◌≤◌, ◌⊎◌, ◌||◌, eqb, Bool, true, false, List, []}
use Rattle.std.proofs.Common.{◌∷◌, ◌++◌, length, get_or, refl, sym, ap, arith, ◌∙◌, inl, inr, Result, Ok, Err, is_ok}
use Rattle.std.proofs.lemmas.Grind.{common_steps}
use Rattle.std.proofs.lemmas.Bool.{eq-eqb, ne_eqb, cases_lt}
use Rattle.std.proofs.lemmas.List.Sorted.{searched}
use Rattle.std.specs.List.Sorted.{IsBinarySearchResult}
use Rattle.std.specs.Ordering.{nat_cmp}
use Rattle.cnf_base.specs.Literals.{member}
use Rattle.cnf_base.specs.Formulas.{value_of}
use Rattle.cnf_base.specs.Rising.{AreRising}
use Rattle.cnf_base.specs.ValuesView.{values_from}

pub length-values : (first n : ℕ) (ts : List ℕ) → length (values_from first n ts) ≡ n
unfolding values_from
length-values first zero ts = refl
length-values first (suc n) ts = let k = length-values (first + 1) n ts in omega arith

pub inside : (first n : ℕ) (ts : List ℕ) (k : ℕ) → k < n
    → get_or (values_from first n ts) k false ≡ member (first + k) ts
unfolding values_from
inside first zero ts k h = absurd (omega arith)
inside first (suc n) ts zero h = let e : first ≡ first + 0 = omega arith in ap (λ (x : ℕ). member x ts) e
inside first (suc n) ts (suc k) h =
    let e : first + 1 + k ≡ first + suc k = omega arith in
    inside (first + 1) n ts k (omega arith) ∙ ap (λ (x : ℕ). member x ts) e

pub outside : (first n : ℕ) (ts : List ℕ) (k : ℕ) → n ≤ k → get_or (values_from first n ts) k false ≡ false
unfolding values_from
outside first zero ts k h = refl
outside first (suc n) ts zero h = absurd (omega arith)
outside first (suc n) ts (suc k) h = outside (first + 1) n ts k (omega arith)

member_at : (ts : List ℕ) (k : ℕ) → k < length ts → member (get_or ts k 0) ts ≡ true
member_at [] k h = absurd (omega arith)
member_at (t ∷ ts) zero h = let q = eq-eqb t t refl in grind (arith, common_steps, q)
member_at (t ∷ ts) (suc k) h = let q = member_at ts k (omega arith) in grind (arith, common_steps, q)

not_among : (ts : List ℕ) (x : ℕ) → ((k : ℕ) → k < length ts → get_or ts k 0 ≡ x → ⊥) → member x ts ≡ false
not_among [] x h = refl
not_among (t ∷ ts) x h =
    let a : eqb x t ≡ false = ne_eqb x t (λ e. h 0 (omega arith) (sym e)) in
    let b = not_among ts x (λ k l. h (suc k) (omega arith)) in
    grind (arith, common_steps, a, b)

above_last : (most last : ℕ) (ts : List ℕ) (k : ℕ) → AreRising most last ts → k < length ts → last < get_or ts k 0
above_last most last [] k r h = absurd (omega arith)
above_last most last (t ∷ ts) zero r h = r.0
above_last most last (t ∷ ts) (suc k) r h =
    let a = r.0 in
    let b = above_last most t ts k r.2 (omega arith) in
    omega arith

in_order : (most last : ℕ) (ts : List ℕ) (i j : ℕ) → AreRising most last ts → i ≤ j → j < length ts
    → get_or ts i 0 ≤ get_or ts j 0
in_order most last [] i j r h k = absurd (omega arith)
in_order most last (t ∷ ts) zero zero r h k = omega arith
in_order most last (t ∷ ts) zero (suc j) r h k = let a = above_last most t ts j r.2 (omega arith) in omega arith
in_order most last (t ∷ ts) (suc i) zero r h k = absurd (omega arith)
in_order most last (t ∷ ts) (suc i) (suc j) r h k = in_order most t ts i j r.2 (omega arith) (omega arith)

-- what a binary search finds
pub found : (most : ℕ) (ts : List ℕ) (x : ℕ) (r : Result ℕ ℕ) → AreRising most 0 ts
    → IsBinarySearchResult (λ y. nat_cmp y x) ts r → is_ok r ≡ member x ts
found most ts x (Ok i) rising h =
    let s = searched ts x (Ok i) h (λ i j. in_order most 0 ts i j rising) in
    sym (ap (λ (y : ℕ). member y ts) (sym s.1) ∙ member_at ts i s.0)
found most ts x (Err i) rising h =
    let s = searched ts x (Err i) h (λ i j. in_order most 0 ts i j rising) in
    sym (not_among ts x (λ k l e. at k l e (cases_lt k i)))
  where
    at : (k : ℕ) → k < length ts → get_or ts k 0 ≡ x → (k < i) ⊎ (i ≤ k) → ⊥
    at k l e (inl q) =
        let s = searched ts x (Err i) h (λ i j. in_order most 0 ts i j rising) in
        let a = s.1 k q in omega arith
    at k l e (inr q) =
        let s = searched ts x (Err i) h (λ i j. in_order most 0 ts i j rising) in
        let a = s.2 k q l in omega arith

pub value_at : (n : ℕ) (ts : List ℕ) (v : ℕ) → 0 < v → v ≤ n → value_of (values_from 1 n ts) v ≡ member v ts
value_at n ts v p h =
    let e : 1 + (v - 1) ≡ v = omega arith in
    inside 1 n ts (v - 1) (omega arith) ∙ ap (λ (x : ℕ). member x ts) e

pub beyond : (n : ℕ) (ts : List ℕ) (v : ℕ) → n < v → value_of (values_from 1 n ts) v ≡ false
beyond n ts v h = outside 1 n ts (v - 1) (omega arith)

pub none_true : (n v : ℕ) → value_of (values_from 1 n []) v ≡ false
none_true n v = at (cases_lt (v - 1) n)
  where
    at : (v - 1 < n) ⊎ (n ≤ v - 1) → value_of (values_from 1 n []) v ≡ false
    at (inl h) = inside 1 n [] (v - 1) h
    at (inr h) = outside 1 n [] (v - 1) h

-- the value of a variable, as it is looked up
pub looked_up : (n : ℕ) (ts : List ℕ) (v : ℕ) (b : Bool) → 0 < v → (v ≤ n → b ≡ member v ts) → (n < v → b ≡ false)
    → b ≡ value_of (values_from 1 n ts) v
looked_up n ts v b p h k = at (cases_lt n v)
  where
    at : (n < v) ⊎ (v ≤ n) → b ≡ value_of (values_from 1 n ts) v
    at (inl q) = k q ∙ sym (beyond n ts v q)
    at (inr q) = h q ∙ sym (value_at n ts v p q)

-- 0 is no variable
pub none_at_zero : (most : ℕ) (ts : List ℕ) → AreRising most 0 ts → member 0 ts ≡ false
none_at_zero most ts r = not_among ts 0 (λ k h e. let a = above_last most 0 ts k r h in omega arith)

at_most : (most last : ℕ) (ts : List ℕ) (k : ℕ) → AreRising most last ts → k < length ts → get_or ts k 0 ≤ most
at_most most last [] k r h = absurd (omega arith)
at_most most last (t ∷ ts) zero r h = r.1
at_most most last (t ∷ ts) (suc k) r h = at_most most t ts k r.2 (omega arith)

rises : (most last : ℕ) (ts : List ℕ) (x : ℕ) → AreRising most last ts → last < x → x ≤ most
    → ((k : ℕ) → k < length ts → get_or ts k 0 < x) → AreRising most last (ts ++ x ∷ [])
rises most last [] x r l m h = (l, m, tt)
rises most last (t ∷ ts) x r l m h =
    (r.0, r.1, rises most t ts x r.2 (h 0 (omega arith)) m (λ k q. h (suc k) (omega arith)))

member_more : (ts : List ℕ) (x v : ℕ) → member v (ts ++ x ∷ []) ≡ (eqb v x || member v ts)
member_more [] x v = refl
member_more (t ∷ ts) x v = let q = member_more ts x v in grind (arith, common_steps, q)

module _ (n : ℕ) (ts : List ℕ) (x : ℕ) (some : 0 < x) (few : x ≤ n) where
  -- a variable above those that are true
  pub still_rising : AreRising n 0 ts → ((v : ℕ) → x ≤ v → value_of (values_from 1 n ts) v ≡ false)
      → AreRising n 0 (ts ++ x ∷ [])
  still_rising r above = rises n 0 ts x r some few (λ k h. at k h (cases_lt (get_or ts k 0) x))
    where
      at : (k : ℕ) → k < length ts → (get_or ts k 0 < x) ⊎ (x ≤ get_or ts k 0) → get_or ts k 0 < x
      at k h (inl q) = q
      at k h (inr q) =
          let a : member (get_or ts k 0) ts ≡ true = member_at ts k h in
          let b = value_at n ts (get_or ts k 0) (above_last n 0 ts k r h) (at_most n 0 ts k r h) in
          let c = above (get_or ts k 0) q in
          absurd (cc)

  pub one_more : (v : ℕ) → 0 < v
      → value_of (values_from 1 n (ts ++ x ∷ [])) v ≡ (eqb v x || value_of (values_from 1 n ts) v)
  one_more v p = at (cases_lt n v)
    where
      at : (n < v) ⊎ (v ≤ n)
          → value_of (values_from 1 n (ts ++ x ∷ [])) v ≡ (eqb v x || value_of (values_from 1 n ts) v)
      at (inl q) =
          let e : eqb v x ≡ false = ne_eqb v x (λ k. omega arith) in
          beyond n (ts ++ x ∷ []) v q
          ∙ sym (ap (λ (b : Bool). eqb v x || b) (beyond n ts v q) ∙ ap (λ (b : Bool). b || false) e)
      at (inr q) =
          value_at n (ts ++ x ∷ []) v p q ∙ member_more ts x v
          ∙ ap (λ (b : Bool). eqb v x || b) (sym (value_at n ts v p q))
