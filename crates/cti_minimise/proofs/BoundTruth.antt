-- A bound on the size of a sort is true exactly where the sort has at most so many elements.
use Rattle.std.proofs.Common.{
  ◌≡◌,
  ℕ,
  zero,
  suc,
  ◌+◌,
  ◌<◌,
  ◌≤◌,
  ◌==◌,
  true,
  List,
  [],
  ◌∷◌,
  get_or,
  sym,
  ap,
  ◌∙◌,
  ⊎_elim,
  arith,
}
use Rattle.std.proofs.lemmas.Bool.{eqb-true, eq-eqb, or_cases, or_left, or_right, cases_lt}
use Rattle.std.specs.Prelude.{◌↔◌}
use Rattle.fol_sig.specs.Tables.{Tables, Reading, reading, size_at}
use Rattle.fol_formula.specs.Syntax.{FormTree, for_all, disjunction}
use Rattle.fol_formula.specs.Truth.{truth, any_true}
use Rattle.fol_formula.specs.Quantified.{AllBelow, AnyBelow}
use Rattle.cti_minimise.specs.SizeBounds.{equations, for_some_times, size_bound}
use Rattle.fol_formula.specs.Sentences.{is_true}
use Rattle.cti_minimise.proofs.Pigeons.{pigeons}

module _ (s : Reading) where
  -- the element that is bound last is one of the n before it
  one-of : (n x : ℕ) (env : List ℕ) → any_true s (equations n) (x ∷ env) ≡ true
      → (i : ℕ) × (i < n) × (get_or env i 0 ≡ x)
  one-of zero x env h = absurd (cc h)
  one-of (suc n) x env h =
      ⊎_elim
      (λ here. (n, omega arith, sym (eqb-true x (get_or env n 0) here)))
      (λ there. let at = one-of n x env there in let below = at.1 in (at.0, omega (arith, below), at.2))
      (or_cases (x == get_or env n 0) (any_true s (equations n) (x ∷ env)) h)

  is-one : (n x : ℕ) (env : List ℕ) (i : ℕ) → i < n → get_or env i 0 ≡ x
      → any_true s (equations n) (x ∷ env) ≡ true
  is-one zero x env i lt is = absurd (omega arith)
  is-one (suc n) x env i lt is =
      ⊎_elim
      (λ before. or_right (x == get_or env n 0) (any_true s (equations n) (x ∷ env)) (is-one n x env i before is))
      (λ last.
      let same : i ≡ n = omega (arith, lt, last) in
      let e : x ≡ get_or env n 0 = sym is ∙ ap (λ j. get_or env j 0) same in
      or_left (x == get_or env n 0) (any_true s (equations n) (x ∷ env)) (eq-eqb x (get_or env n 0) e))
      (cases_lt i n)

  module _ (all : AllBelow) (any : AnyBelow) (k : ℕ) where
    -- where the formula is true under some elements, it is true under those
    chosen : (n : ℕ) (p : FormTree) (env : List ℕ) → truth s (for_some_times n k p) env ≡ true
        → (elements : List ℕ) × (truth s p elements ≡ true)
    chosen zero p env h = (env, h)
    chosen (suc n) p env h =
        let x = any.one (s.size k) (λ x. truth s (for_some_times n k p) (x ∷ env)) h in
        chosen n p (x.0 ∷ env) x.2

    at-most : (n : ℕ) → truth s (size_bound k n) [] ≡ true → s.size k ≤ n
    at-most n h =
        let some = chosen n (for_all k (disjunction (equations n))) [] h in
        let each = all.each (s.size k) (λ x. any_true s (equations n) (x ∷ some.0)) some.1 in
        pigeons (s.size k) n (λ i. get_or some.0 i 0) (λ x lt. one-of n x some.0 (each x lt))

    -- the elements from r on stand in order
    abbrev Listed : ℕ → List ℕ → Type 0
    Listed r env = (j : ℕ) → r + j < s.size k → get_or env j 0 ≡ r + j

    choose : (n : ℕ) (p : FormTree) (env : List ℕ) → 0 < s.size k
        → ((elements : List ℕ) → Listed 0 elements → truth s p elements ≡ true)
        → Listed n env → truth s (for_some_times n k p) env ≡ true
    choose zero p env some holds listed = holds env listed
    choose (suc n) p env some holds listed =
        ⊎_elim
        (λ lt. any.of_one (s.size k) (λ x. truth s (for_some_times n k p) (x ∷ env)) n lt
        (choose n p (n ∷ env) some holds (next lt)))
        (λ ge. any.of_one (s.size k) (λ x. truth s (for_some_times n k p) (x ∷ env)) 0 some
        (choose n p (0 ∷ env) some holds (λ j lt. absurd (omega (arith, ge, lt)))))
        (cases_lt n (s.size k))
      where
        next : n < s.size k → Listed n (n ∷ env)
        next lt zero below = omega arith
        next lt (suc j) below = let at = listed j (omega (arith, below)) in omega (arith, at)

    enough : (n : ℕ) → 0 < s.size k → s.size k ≤ n → truth s (size_bound k n) [] ≡ true
    enough n some le =
        choose n (for_all k (disjunction (equations n))) [] some
        (λ elements listed.
        all.of_each (s.size k) (λ x. any_true s (equations n) (x ∷ elements))
        (λ x lt. is-one n x elements x (omega (arith, lt, le))
        (let at = listed x (omega (arith, lt)) in omega (arith, at))))
        (λ j lt. absurd (omega (arith, lt, le)))

pub bounds-exact : AllBelow → AnyBelow → (s : Tables) (k n : ℕ) → 0 < size_at s k
    → (is_true s (size_bound k n) ≡ true) ↔ (size_at s k ≤ n)
bounds-exact all any s k n some = (at-most (reading s) all any k n, enough (reading s) all any k n some)
