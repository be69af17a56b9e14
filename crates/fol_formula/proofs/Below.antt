-- What is true of all numbers below a bound, and of some.
use Rattle.std.proofs.Common.{◌≡◌, ℕ, zero, suc, ◌<◌, Bool, true, false, not, ◌&&◌, ◌||◌, refl, ap, ◌∙◌, subst, arith}
use Rattle.std.proofs.Common.{⊎_elim}
use Rattle.std.proofs.lemmas.Bool.{cases_lt, or_cases, or_left, or_right, and_parts, and_from, false≢true}
use Rattle.fol_formula.specs.Truth.{all_below, any_below}
use Rattle.fol_formula.specs.Quantified.{AllBelow, AnyBelow}

pub all_below-same : (n : ℕ) (p q : ℕ → Bool) → ((x : ℕ) → x < n → p x ≡ q x) → all_below n p ≡ all_below n q
all_below-same zero p q h = refl
all_below-same (suc n) p q h =
    ap (λ b. b && p n) (all_below-same n p q (λ x lt. h x (omega arith)))
    ∙ ap (λ b. all_below n q && b) (h n (omega arith))

pub any_below-same : (n : ℕ) (p q : ℕ → Bool) → ((x : ℕ) → x < n → p x ≡ q x) → any_below n p ≡ any_below n q
any_below-same zero p q h = refl
any_below-same (suc n) p q h =
    ap (λ b. b || p n) (any_below-same n p q (λ x lt. h x (omega arith)))
    ∙ ap (λ b. any_below n q || b) (h n (omega arith))

pub all_below-within : (m n : ℕ) (p q : ℕ → Bool) → m ≡ n → ((x : ℕ) → x < m → p x ≡ q x)
    → all_below m p ≡ all_below n q
all_below-within m n p q e h = all_below-same m p q h ∙ ap (λ k. all_below k q) e

pub any_below-within : (m n : ℕ) (p q : ℕ → Bool) → m ≡ n → ((x : ℕ) → x < m → p x ≡ q x)
    → any_below m p ≡ any_below n q
any_below-within m n p q e h = any_below-same m p q h ∙ ap (λ k. any_below k q) e

pub all_below-of_each : (n : ℕ) (p : ℕ → Bool) → ((x : ℕ) → x < n → p x ≡ true) → all_below n p ≡ true
all_below-of_each zero p h = refl
all_below-of_each (suc n) p h =
    and_from (all_below n p) (p n) (all_below-of_each n p (λ x lt. h x (omega arith))) (h n (omega arith))

pub all_below-each : (n : ℕ) (p : ℕ → Bool) → all_below n p ≡ true → (x : ℕ) → x < n → p x ≡ true
all_below-each zero p h x lt = absurd (omega arith)
all_below-each (suc n) p h x lt =
    let both = and_parts (all_below n p) (p n) h in
    ⊎_elim
    (λ below. all_below-each n p both.0 x below)
    (λ above. let last : n ≡ x = omega arith in subst (λ y. p y ≡ true) last both.1)
    (cases_lt x n)

pub any_below-of_one : (n : ℕ) (p : ℕ → Bool) (x : ℕ) → x < n → p x ≡ true → any_below n p ≡ true
any_below-of_one zero p x lt h = absurd (omega arith)
any_below-of_one (suc n) p x lt h =
    ⊎_elim
    (λ below. or_left (any_below n p) (p n) (any_below-of_one n p x below h))
    (λ above. let last : x ≡ n = omega arith in or_right (any_below n p) (p n) (subst (λ y. p y ≡ true) last h))
    (cases_lt x n)

pub any_below-one : (n : ℕ) (p : ℕ → Bool) → any_below n p ≡ true → (x : ℕ) × (x < n) × (p x ≡ true)
any_below-one zero p h = absurd (false≢true h)
any_below-one (suc n) p h =
    ⊎_elim
    (λ below. let r = any_below-one n p below in let lt = r.1 in (r.0, omega arith, r.2))
    (λ last. (n, omega arith, last))
    (or_cases (any_below n p) (p n) h)

not-and : (a b : Bool) → not a || not b ≡ not (a && b)
not-and true b = refl
not-and false b = refl

not-or : (a b : Bool) → not a && not b ≡ not (a || b)
not-or true b = refl
not-or false b = refl

pub all_below-opposite : (n : ℕ) (p : ℕ → Bool) → all_below n (λ x. not (p x)) ≡ not (any_below n p)
all_below-opposite zero p = refl
all_below-opposite (suc n) p = ap (λ b. b && not (p n)) (all_below-opposite n p) ∙ not-or (any_below n p) (p n)

pub any_below-opposite : (n : ℕ) (p : ℕ → Bool) → any_below n (λ x. not (p x)) ≡ not (all_below n p)
any_below-opposite zero p = refl
any_below-opposite (suc n) p = ap (λ b. b || not (p n)) (any_below-opposite n p) ∙ not-and (all_below n p) (p n)

pub all_below-laws : AllBelow
all_below-laws =
    record {
      same = all_below-within;
      of_each = all_below-of_each;
      each = all_below-each;
      opposite = all_below-opposite;
    }

pub any_below-laws : AnyBelow
any_below-laws =
    record { same = any_below-within; of_one = any_below-of_one; one = any_below-one; opposite = any_below-opposite }
