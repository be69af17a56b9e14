-- A bound on a relation is true exactly where the relation is true of at most so many tuples.
use Rattle.std.proofs.Common.{◌≡◌, ◌⊎◌, ℕ, zero, suc, ◌+◌, ◌*◌, ◌<◌, ◌≤◌, ◌==◌, true, not, List, []}
use Rattle.std.proofs.Common.{◌∷◌, length, get_or, inl, inr, refl, sym, ap, ◌∙◌, ⊎_elim, arith}
use Rattle.std.proofs.Math.Nat.{suc-mul}
use Rattle.std.proofs.lemmas.Bool.{eqb-true, eq-eqb, or_cases, or_left, or_right, and_parts, and_from, not-true}
use Rattle.std.proofs.lemmas.Bool.{cases_lt}
use Rattle.std.proofs.lemmas.Bool.{false≢true, not_from_false, cases_Bool}
use Rattle.fol_sig.specs.Tables.{Tables, InRange, Reading, reading, size_at, rel_at}
use Rattle.fol_formula.specs.Syntax.{FormTree}
use Rattle.fol_formula.specs.Truth.{truth, all_true, any_true, values}
use Rattle.fol_formula.specs.Quantified.{AllBelow, AnyBelow}
use Rattle.cti_minimise.specs.TupleBounds.{for_each, for_some_each, for_some_tuples, variables, tuple_equations}
use Rattle.cti_minimise.specs.TupleBounds.{tuple_choices, is_one, tuple_bound}
use Rattle.cti_minimise.proofs.TupleReads.{onto, read, read-behind, read-own, read-next}

-- the list without its first element
abbrev tail : List ℕ → List ℕ
tail [] = []
tail (x ∷ xs) = xs

-- one of the tuples
abbrev pub Among : List ℕ → List (List ℕ) → Type 0
Among xs [] = ⊥
Among xs (ys ∷ more) = (xs ≡ ys) ⊎ Among xs more

abbrev pub AllInRange : List ℕ → List ℕ → List (List ℕ) → Type 0
AllInRange sizes ks [] = Unit {0}
AllInRange sizes ks (xs ∷ more) = InRange sizes ks xs × AllInRange sizes ks more

pub length-tuple : (sizes ks xs : List ℕ) → InRange sizes ks xs → length xs ≡ length ks
length-tuple sizes [] [] h = refl
length-tuple sizes [] (x ∷ xs) h = absurd h
length-tuple sizes (k ∷ ks) [] h = absurd h
length-tuple sizes (k ∷ ks) (x ∷ xs) h = let rest = length-tuple sizes ks xs h.1 in omega (arith, rest)

module _ (s : Reading) where
  values-read : (env : List ℕ) (behind m : ℕ) → values s (variables behind m) env ≡ read env behind m
  values-read env behind zero = refl
  values-read env behind (suc m) = ap (λ xs. get_or env (behind + m) 0 ∷ xs) (values-read env behind m)

  same-tuple : (env : List ℕ) (behind m : ℕ) → all_true s (tuple_equations behind m) env ≡ true
      → read env 0 m ≡ read env behind m
  same-tuple env behind zero h = refl
  same-tuple env behind (suc m) h =
      let parts = and_parts (get_or env m 0 == get_or env (behind + m) 0)
      (all_true s (tuple_equations behind m) env) h in
      let own : 0 + m ≡ m = omega arith in
      let here = ap (λ i. get_or env i 0) own ∙ eqb-true (get_or env m 0) (get_or env (behind + m) 0) parts.0 in
      ap (λ x. x ∷ read env 0 m) here
      ∙ ap (λ xs. get_or env (behind + m) 0 ∷ xs) (same-tuple env behind m parts.1)

  tuple-same : (env : List ℕ) (behind m : ℕ) → read env 0 m ≡ read env behind m
      → all_true s (tuple_equations behind m) env ≡ true
  tuple-same env behind zero h = refl
  tuple-same env behind (suc m) h =
      let own : m ≡ 0 + m = omega arith in
      let here = ap (λ i. get_or env i 0) own ∙ ap (λ xs. get_or xs 0 0) h in
      and_from (get_or env m 0 == get_or env (behind + m) 0) (all_true s (tuple_equations behind m) env)
      (eq-eqb (get_or env m 0) (get_or env (behind + m) 0) here)
      (tuple-same env behind m (ap tail h))

  -- the tuple that is bound last is one of the n behind it
  one-of : (m n : ℕ) (env : List ℕ) → any_true s (tuple_choices m n) env ≡ true
      → (j : ℕ) × (j < n) × (read env 0 m ≡ read env (suc j * m) m)
  one-of m zero env h = absurd (false≢true h)
  one-of m (suc n) env h =
      ⊎_elim
      (λ here. (n, omega arith, same-tuple env (suc n * m) m here))
      (λ there. let at = one-of m n env there in let below = at.1 in (at.0, omega (arith, below), at.2))
      (or_cases (all_true s (tuple_equations (suc n * m) m) env) (any_true s (tuple_choices m n) env) h)

  is-one-of : (m n : ℕ) (env : List ℕ) (j : ℕ) → j < n → read env 0 m ≡ read env (suc j * m) m
      → any_true s (tuple_choices m n) env ≡ true
  is-one-of m zero env j lt is = absurd (omega (arith, lt))
  is-one-of m (suc n) env j lt is =
      ⊎_elim
      (λ before. or_right (all_true s (tuple_equations (suc n * m) m) env) (any_true s (tuple_choices m n) env)
      (is-one-of m n env j before is))
      (λ last.
      or_left (all_true s (tuple_equations (suc n * m) m) env) (any_true s (tuple_choices m n) env)
      (tuple-same env (suc n * m) m (is ∙ ap (λ i. read env (suc i * m) m) last)))
      (⊎_elim (λ before. inl before) (λ ge. inr (omega (arith, lt, ge))) (cases_lt j n))

  module _ (any : AnyBelow) where
    chosen-each : (ks : List ℕ) (p : FormTree) (env : List ℕ) → truth s (for_some_each ks p) env ≡ true
        → (elements : List ℕ) × (truth s p elements ≡ true)
    chosen-each [] p env h = (env, h)
    chosen-each (k ∷ ks) p env h =
        let x = any.one (s.size k) (λ x. truth s (for_some_each ks p) (x ∷ env)) h in
        chosen-each ks p (x.0 ∷ env) x.2

    chosen : (n : ℕ) (ks : List ℕ) (p : FormTree) (env : List ℕ) → truth s (for_some_tuples n ks p) env ≡ true
        → (elements : List ℕ) × (truth s p elements ≡ true)
    chosen zero ks p env h = (env, h)
    chosen (suc n) ks p env h =
        let some = chosen-each ks (for_some_tuples n ks p) env h in
        chosen n ks p some.0 some.1

module _ (t : Tables) (all : AllBelow) (any : AnyBelow) where
  each-of : (ks : List ℕ) (p : FormTree) (env : List ℕ) → truth (reading t) (for_each ks p) env ≡ true
      → (xs : List ℕ) → InRange t.sizes ks xs → truth (reading t) p (onto xs env) ≡ true
  each-of [] p env h [] within = h
  each-of [] p env h (x ∷ xs) within = absurd within
  each-of (k ∷ ks) p env h [] within = absurd within
  each-of (k ∷ ks) p env h (x ∷ xs) within =
      let here = all.each (size_at t k) (λ x. truth (reading t) (for_each ks p) (x ∷ env)) h x within.0 in
      each-of ks p (x ∷ env) here xs within.1

  of-each : (ks : List ℕ) (p : FormTree) (env : List ℕ)
      → ((xs : List ℕ) → InRange t.sizes ks xs → truth (reading t) p (onto xs env) ≡ true)
      → truth (reading t) (for_each ks p) env ≡ true
  of-each [] p env each = each [] tt
  of-each (k ∷ ks) p env each =
      all.of_each (size_at t k) (λ x. truth (reading t) (for_each ks p) (x ∷ env))
      (λ x lt. of-each ks p (x ∷ env) (λ xs within. each (x ∷ xs) (lt, within)))

  of-some : (ks : List ℕ) (p : FormTree) (env xs : List ℕ) → InRange t.sizes ks xs
      → truth (reading t) p (onto xs env) ≡ true → truth (reading t) (for_some_each ks p) env ≡ true
  of-some [] p env [] within h = h
  of-some [] p env (x ∷ xs) within h = absurd within
  of-some (k ∷ ks) p env [] within h = absurd within
  of-some (k ∷ ks) p env (x ∷ xs) within h =
      any.of_one (size_at t k) (λ x. truth (reading t) (for_some_each ks p) (x ∷ env)) x within.0
      (of-some ks p (x ∷ env) xs within.1 h)

  -- each of these tuples is bound somewhere among the last n
  abbrev AreBound : ℕ → ℕ → List (List ℕ) → List ℕ → Type 0
  AreBound m n tuples env = (xs : List ℕ) → Among xs tuples → (j : ℕ) × (j < n) × (read env (j * m) m ≡ xs)

  module _ (ks : List ℕ) (p : FormTree) (other : List ℕ) (some : InRange t.sizes ks other) where
    -- The formula is true under some tuples, since it is true wherever these are bound and what was bound before is.
    abbrev IsChosen : ℕ → List (List ℕ) → List ℕ → Type 0
    IsChosen n tuples env =
        ((elements : List ℕ) → ((b : ℕ) → read elements (n * length ks + b) (length ks) ≡ read env b (length ks))
        → AreBound (length ks) n tuples elements → truth (reading t) p elements ≡ true)
        → truth (reading t) (for_some_tuples n ks p) env ≡ true

    choose-one : (n : ℕ) (xs : List ℕ) (rest all : List (List ℕ)) (env : List ℕ) → InRange t.sizes ks xs
        → IsChosen n rest (onto xs env) → ((ys : List ℕ) → Among ys all → (ys ≡ xs) ⊎ Among ys rest)
        → IsChosen (suc n) all env
    choose-one n xs rest all env within more split holds =
        let m = length ks in
        let is = length-tuple t.sizes ks xs within in
        let mul = suc-mul n m in
        of-some ks (for_some_tuples n ks p) env xs within
        (more
        (λ elements same bound.
        holds elements
        (λ b.
        let at : suc n * m + b ≡ n * m + (length xs + b) = omega (arith, mul, is) in
        ap (λ i. read elements i m) at ∙ same (length xs + b) ∙ read-behind xs env b m)
        (λ ys among.
        ⊎_elim
        (λ e.
        let none : n * m ≡ n * m + 0 = omega arith in
        let own : read (onto xs env) 0 m ≡ xs = ap (λ i. read (onto xs env) 0 i) (sym is) ∙ read-own xs env in
        (n, omega arith, ap (λ i. read elements i m) none ∙ same 0 ∙ own ∙ sym e))
        (λ behind. let at = bound ys behind in let lt = at.1 in (at.0, omega (arith, lt), at.2))
        (split ys among))))

    choose : (n : ℕ) (tuples : List (List ℕ)) (env : List ℕ) → length tuples ≤ n → AllInRange t.sizes ks tuples
        → IsChosen n tuples env
    choose zero [] env few within holds = holds env (λ b. same b) (λ xs none. absurd none)
      where
        same : (b : ℕ) → read env (0 * length ks + b) (length ks) ≡ read env b (length ks)
        same b = let mul : 0 * length ks + b ≡ b = omega arith in ap (λ i. read env i (length ks)) mul
    choose zero (xs ∷ more) env few within holds = absurd (omega (arith, few))
    choose (suc n) [] env few within holds =
        choose-one n other [] [] env some (choose n [] (onto other env) (omega arith) tt) (λ ys none. absurd none) holds
    choose (suc n) (xs ∷ more) env few within holds =
        choose-one n xs more (xs ∷ more) env within.0 (choose n more (onto xs env) (omega (arith, few)) within.1)
        (λ ys among. among) holds

  -- a tuple that is bound last among others that are bound before
  module _ (r : ℕ) (ks : List ℕ) where
    own-tuple : (xs env : List ℕ) → InRange t.sizes ks xs → read (onto xs env) 0 (length ks) ≡ xs
    own-tuple xs env within =
        ap (λ i. read (onto xs env) 0 i) (sym (length-tuple t.sizes ks xs within)) ∙ read-own xs env

    rel-own : (xs env : List ℕ) → InRange t.sizes ks xs
        → rel_at t r (values (reading t) (variables 0 (length ks)) (onto xs env)) ≡ rel_at t r xs
    rel-own xs env within =
        ap (rel_at t r) (values-read (reading t) (onto xs env) 0 (length ks) ∙ own-tuple xs env within)

    -- what is said of a tuple, where it is true of it
    one-of-them : (n : ℕ) (xs elements : List ℕ) → InRange t.sizes ks xs → rel_at t r xs ≡ true
        → truth (reading t) (is_one r (length ks) n) (onto xs elements) ≡ true
        → (j : ℕ) × (j < n) × (read elements (j * length ks) (length ks) ≡ xs)
    one-of-them n xs elements within holds h =
        let m = length ks in
        let env = onto xs elements in
        let b = rel_at t r (values (reading t) (variables 0 m) env) in
        ⊎_elim
        (λ no. absurd (false≢true (sym (not-true b no) ∙ rel-own xs elements within ∙ holds)))
        (λ yes.
        let at = one-of (reading t) m n env yes in (
          at.0,
          at.1,
          sym (read-next xs elements at.0 m (length-tuple t.sizes ks xs within)) ∙ sym at.2
              ∙ own-tuple xs elements within,
        ))
        (or_cases (not b) (any_true (reading t) (tuple_choices m n) env) h)

    them-one-of : (n : ℕ) (xs elements : List ℕ) → InRange t.sizes ks xs
        → (rel_at t r xs ≡ true → (j : ℕ) × (j < n) × (read elements (j * length ks) (length ks) ≡ xs))
        → truth (reading t) (is_one r (length ks) n) (onto xs elements) ≡ true
    them-one-of n xs elements within each =
        let m = length ks in
        let env = onto xs elements in
        let b = rel_at t r (values (reading t) (variables 0 m) env) in
        let rest = any_true (reading t) (tuple_choices m n) env in
        ⊎_elim
        (λ yes.
        let at = each yes in
        or_right (not b) rest
        (is-one-of (reading t) m n env at.0 at.1
        (own-tuple xs elements within ∙ sym at.2
        ∙ sym (read-next xs elements at.0 m (length-tuple t.sizes ks xs within)))))
        (λ no. or_left (not b) rest (not_from_false b (rel-own xs elements within ∙ no)))
        (cases_Bool (rel_at t r xs))

    -- the true tuples are among n that there are
    pub named-tuples : (n : ℕ) → truth (reading t) (tuple_bound r ks n) [] ≡ true
        → (elements : List ℕ) × ((xs : List ℕ) → InRange t.sizes ks xs → rel_at t r xs ≡ true
        → (j : ℕ) × (j < n) × (read elements (j * length ks) (length ks) ≡ xs))
    named-tuples n h =
        let p = is_one r (length ks) n in
        let some = chosen (reading t) any n ks (for_each ks p) [] h in (
          some.0,
          λ xs within holds. one-of-them n xs some.0 within holds (each-of ks p some.0 some.1 xs within),
        )

    -- where the true tuples are among at most n, they can be named
    pub tuples-named : (n : ℕ) (other : List ℕ) (tuples : List (List ℕ)) → InRange t.sizes ks other
        → length tuples ≤ n → AllInRange t.sizes ks tuples
        → ((xs : List ℕ) → InRange t.sizes ks xs → rel_at t r xs ≡ true → Among xs tuples)
        → truth (reading t) (tuple_bound r ks n) [] ≡ true
    tuples-named n other tuples some few within each =
        let p = is_one r (length ks) n in
        choose ks (for_each ks p) other some n tuples [] few within
        (λ elements same bound.
        of-each ks p elements
        (λ xs at. them-one-of n xs elements at (λ holds. bound xs (each xs at holds))))
