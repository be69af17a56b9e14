-- What is true of all numbers below a bound, and of some.
use Rattle.std.specs.Prelude.{◌≡◌, ℕ, ◌<◌, Bool, true, not}
use Rattle.fol_formula.specs.Truth.{all_below, any_below}

-- how something is shown of all numbers below a bound, and used; it fails where the opposite is true of some
pub record AllBelow : Type 0 where
  pub same : (m n : ℕ) (p q : ℕ → Bool) → m ≡ n → ((x : ℕ) → x < m → p x ≡ q x) → all_below m p ≡ all_below n q
  pub of_each : (n : ℕ) (p : ℕ → Bool) → ((x : ℕ) → x < n → p x ≡ true) → all_below n p ≡ true
  pub each : (n : ℕ) (p : ℕ → Bool) → all_below n p ≡ true → (x : ℕ) → x < n → p x ≡ true
  pub opposite : (n : ℕ) (p : ℕ → Bool) → all_below n (λ x. not (p x)) ≡ not (any_below n p)

-- how something is shown of some number below a bound, and used; it fails where the opposite is true of all
pub record AnyBelow : Type 0 where
  pub same : (m n : ℕ) (p q : ℕ → Bool) → m ≡ n → ((x : ℕ) → x < m → p x ≡ q x) → any_below m p ≡ any_below n q
  pub of_one : (n : ℕ) (p : ℕ → Bool) (x : ℕ) → x < n → p x ≡ true → any_below n p ≡ true
  pub one : (n : ℕ) (p : ℕ → Bool) → any_below n p ≡ true → (x : ℕ) × (x < n) × (p x ≡ true)
  pub opposite : (n : ℕ) (p : ℕ → Bool) → any_below n (λ x. not (p x)) ≡ not (all_below n p)
