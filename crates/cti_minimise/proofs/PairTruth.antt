-- A bound that is said by pairs is true exactly where the sort has at most so many elements.
use Rattle.std.proofs.Common.{
  ◌≡◌,
  ◌⊎◌,
  ℕ,
  zero,
  suc,
  ◌+◌,
  ◌<◌,
  ◌≤◌,
  ◌==◌,
  Bool,
  true,
  false,
  cond,
  List,
  [],
  ◌∷◌,
  get_or,
  inl,
  inr,
  refl,
  sym,
  ap,
  ◌∙◌,
  ⊎_elim,
  arith,
}
use Rattle.std.specs.Prelude.{◌↔◌}
use Rattle.std.proofs.lemmas.Bool.{eqb-true, eq-eqb, or_cases, or_left, or_right, cases_lt}
use Rattle.std.proofs.lemmas.Bool.{cond-true, cond-false, false≢true}
use Rattle.fol_sig.specs.Tables.{Tables, Reading, reading, size_at}
use Rattle.fol_formula.specs.Syntax.{FormTree, FormTrees, disjunction}
use Rattle.fol_formula.specs.Truth.{truth, any_true}
use Rattle.fol_formula.specs.Quantified.{AllBelow}
use Rattle.fol_formula.specs.Sentences.{is_true}
use Rattle.cti_minimise.specs.SizeBounds.{equations_with, pair_equations, for_all_times, pair_bound}
use Rattle.cti_minimise.proofs.Pigeons.{pigeons}

-- the last place below n that has the value v
abbrev place : List ℕ → ℕ → ℕ → ℕ
place xs zero v = 0
place xs (suc n) v = cond (get_or xs n 0 == v) n (place xs n v)

-- no two of the first n are equal
abbrev AreDistinct : List ℕ → ℕ → Type 0
AreDistinct xs n = (i j : ℕ) → i < j → j < n → get_or xs i 0 ≡ get_or xs j 0 → ⊥

abbrev AreBelow : List ℕ → ℕ → ℕ → Type 0
AreBelow xs n size = (i : ℕ) → i < n → get_or xs i 0 < size

place-of : (xs : List ℕ) (n i : ℕ) → AreDistinct xs n → i < n → place xs n (get_or xs i 0) ≡ i
place-of xs zero i distinct lt = absurd (omega (arith, lt))
place-of xs (suc n) i distinct lt =
    let v = get_or xs i 0 in
    ⊎_elim
    (λ before.
    cond-false (get_or xs n 0 == v) n (place xs n v)
    (other (get_or xs n 0 == v) (λ same. distinct i n before (omega arith) (sym (eqb-true (get_or xs n 0) v same))))
    ∙ place-of xs n i (λ a b ab bn. distinct a b ab (omega (arith, bn))) before)
    (λ ge.
    let same : i ≡ n = omega (arith, lt, ge) in
    cond-true (get_or xs n 0 == v) n (place xs n v)
    (eq-eqb (get_or xs n 0) v (ap (λ j. get_or xs j 0) (sym same))) ∙ sym same)
    (cases_lt i n)
  where
    other : (b : Bool) → (b ≡ true → ⊥) → b ≡ false
    other true h = absurd (h refl)
    other false h = refl

-- so many numbers below a bound, no two of them equal, are at most as many as the bound
few : (xs : List ℕ) (n size : ℕ) → AreDistinct xs n → AreBelow xs n size → n ≤ size
few xs n size distinct below =
    pigeons n size (place xs n) (λ i lt. (get_or xs i 0, below i lt, place-of xs n i distinct lt))

module _ (s : Reading) where
  with-cases : (j i : ℕ) (others : FormTrees) (env : List ℕ) → any_true s (equations_with j i others) env ≡ true
      → ((x : ℕ) × (x < i) × (get_or env x 0 ≡ get_or env j 0)) ⊎ (any_true s others env ≡ true)
  with-cases j zero others env h = inr h
  with-cases j (suc i) others env h =
      ⊎_elim
      (λ here. inl (i, omega arith, eqb-true (get_or env i 0) (get_or env j 0) here))
      (λ there.
      ⊎_elim
      (λ at. let below = at.1 in inl (at.0, omega (arith, below), at.2))
      (λ rest. inr rest)
      (with-cases j i others env there))
      (or_cases (get_or env i 0 == get_or env j 0) (any_true s (equations_with j i others) env) h)

  with-others : (j i : ℕ) (others : FormTrees) (env : List ℕ) → any_true s others env ≡ true
      → any_true s (equations_with j i others) env ≡ true
  with-others j zero others env h = h
  with-others j (suc i) others env h =
      or_right (get_or env i 0 == get_or env j 0) (any_true s (equations_with j i others) env)
      (with-others j i others env h)

  with-one : (j i : ℕ) (others : FormTrees) (env : List ℕ) (x : ℕ) → x < i → get_or env x 0 ≡ get_or env j 0
      → any_true s (equations_with j i others) env ≡ true
  with-one j zero others env x lt is = absurd (omega (arith, lt))
  with-one j (suc i) others env x lt is =
      ⊎_elim
      (λ before.
      or_right (get_or env i 0 == get_or env j 0) (any_true s (equations_with j i others) env)
      (with-one j i others env x before is))
      (λ ge.
      let same : x ≡ i = omega (arith, lt, ge) in
      let e : get_or env i 0 ≡ get_or env j 0 = ap (λ y. get_or env y 0) (sym same) ∙ is in
      or_left (get_or env i 0 == get_or env j 0) (any_true s (equations_with j i others) env)
      (eq-eqb (get_or env i 0) (get_or env j 0) e))
      (cases_lt x i)

  -- two of the first n + 1 are equal
  two-equal : (n : ℕ) (env : List ℕ) → any_true s (pair_equations n) env ≡ true
      → (x y : ℕ) × (x < y) × (y ≤ n) × (get_or env x 0 ≡ get_or env y 0)
  two-equal zero env h = absurd (false≢true h)
  two-equal (suc n) env h =
      ⊎_elim
      (λ at. (at.0, suc n, at.1, omega arith, at.2))
      (λ rest. let at = two-equal n env rest in let le = at.3 in (at.0, at.1, at.2, omega (arith, le), at.4))
      (with-cases (suc n) (suc n) (pair_equations n) env h)

  are-equal : (n : ℕ) (env : List ℕ) (x y : ℕ) → x < y → y ≤ n → get_or env x 0 ≡ get_or env y 0
      → any_true s (pair_equations n) env ≡ true
  are-equal zero env x y lt le is = absurd (omega (arith, lt, le))
  are-equal (suc n) env x y lt le is =
      ⊎_elim
      (λ before.
      with-others (suc n) (suc n) (pair_equations n) env (are-equal n env x y lt (omega (arith, before)) is))
      (λ ge.
      let last : y ≡ suc n = omega (arith, le, ge) in
      with-one (suc n) (suc n) (pair_equations n) env x (omega (arith, lt, last))
      (is ∙ ap (λ j. get_or env j 0) last))
      (cases_lt y (suc n))

  -- of more numbers than there are below the size two are equal
  some-equal : (n : ℕ) (env : List ℕ) (size : ℕ) → size ≤ n → AreBelow env (suc n) size
      → any_true s (pair_equations n) env ≡ true
  some-equal n env size le below = decided (any_true s (pair_equations n) env) refl
    where
      decided : (b : Bool) → any_true s (pair_equations n) env ≡ b → any_true s (pair_equations n) env ≡ true
      decided true is = is
      decided false is =
          let most = few env (suc n) size
          (λ x y lt within e. false≢true (sym is ∙ are-equal n env x y lt (omega (arith, within)) e)) below in
          absurd (omega (arith, most, le))

  module _ (all : AllBelow) (k : ℕ) where
    -- the numbers below d stand in order, the greatest first
    abbrev IsDown : List ℕ → ℕ → Type 0
    IsDown env d = (x : ℕ) → x < d → get_or env x 0 + suc x ≡ d

    -- where the formula holds under all elements, it holds under these
    under-down : (r d : ℕ) (p : FormTree) (env : List ℕ) → truth s (for_all_times r k p) env ≡ true
        → r + d ≤ s.size k → IsDown env d → (elements : List ℕ) × IsDown elements (r + d) × (truth s p elements ≡ true)
    under-down zero d p env h le down = (
      env,
      (λ x lt. let is = down x (omega (arith, lt)) in omega (arith, is)),
      h,
    )
    under-down (suc r) d p env h le down =
        let here = all.each (s.size k) (λ x. truth s (for_all_times r k p) (x ∷ env)) h d (omega (arith, le)) in
        let at = under-down r (suc d) p (d ∷ env) here (omega (arith, le)) next in
        (at.0, (λ x lt. let is = at.1 x (omega (arith, lt)) in omega (arith, is)), at.2)
      where
        next : IsDown (d ∷ env) (suc d)
        next zero lt = omega arith
        next (suc x) lt = let is = down x (omega (arith, lt)) in omega (arith, is)

    at-most : (n : ℕ) → truth s (pair_bound k n) [] ≡ true → s.size k ≤ n
    at-most n h =
        ⊎_elim
        (λ more.
        let at = under-down (suc n) 0 (disjunction (pair_equations n)) [] h (omega (arith, more))
        (λ x lt. absurd (omega (arith, lt))) in
        let two = two-equal n at.0 at.2 in
        let lt = two.2 in
        let le = two.3 in
        let e = two.4 in
        let one = at.1 two.0 (omega (arith, lt, le)) in
        let other = at.1 two.1 (omega (arith, le)) in
        absurd (omega (arith, lt, e, one, other)))
        (λ le. le)
        (cases_lt n (s.size k))

    -- where the formula holds under each elements of the sort, it holds under all
    under-each : (r d : ℕ) (p : FormTree) (env : List ℕ)
        → ((elements : List ℕ) → AreBelow elements (r + d) (s.size k) → truth s p elements ≡ true)
        → AreBelow env d (s.size k) → truth s (for_all_times r k p) env ≡ true
    under-each zero d p env each below = each env (λ x lt. below x (omega (arith, lt)))
    under-each (suc r) d p env each below =
        all.of_each (s.size k) (λ x. truth s (for_all_times r k p) (x ∷ env))
        (λ x lt.
        under-each r (suc d) p (x ∷ env) (λ elements h. each elements (λ i within. h i (omega (arith, within))))
        (next x lt))
      where
        next : (x : ℕ) → x < s.size k → AreBelow (x ∷ env) (suc d) (s.size k)
        next x lt zero within = lt
        next x lt (suc i) within = below i (omega (arith, within))

    enough : (n : ℕ) → s.size k ≤ n → truth s (pair_bound k n) [] ≡ true
    enough n le =
        under-each (suc n) 0 (disjunction (pair_equations n)) []
        (λ elements below. some-equal n elements (s.size k) le (λ x lt. below x (omega (arith, lt))))
        (λ x lt. absurd (omega (arith, lt)))

pub pairs-exact : AllBelow → (s : Tables) (k n : ℕ) → (is_true s (pair_bound k n) ≡ true) ↔ (size_at s k ≤ n)
pairs-exact all s k n = (at-most (reading s) all k n, enough (reading s) all k n)
