-- Bounds on numbers, looked at one by one.
use Rattle.std.proofs.Common.{ℕ, zero, suc, ◌<◌, ◌≤◌, List, [], ◌∷◌, ◌++◌, length, take, get_or, arith}
use Rattle.cti_minimise.specs.Within.{AreAtMost}

-- the first numbers, and the next
pub at-most-taken : (xs ys : List ℕ) (place n : ℕ) → place < length xs → place ≤ length ys
    → ((k : ℕ) → k < place → get_or xs k 0 ≤ get_or ys k 0) → get_or xs place 0 ≤ n
    → AreAtMost xs (take place ys ++ n ∷ [])
at-most-taken [] ys place n lt le each next = absurd (omega (arith, lt))
at-most-taken (x ∷ xs) ys zero n lt le each next = (next, tt)
at-most-taken (x ∷ xs) [] (suc place) n lt le each next = absurd (omega (arith, le))
at-most-taken (x ∷ xs) (y ∷ ys) (suc place) n lt le each next = (
  each 0 (omega arith),
  at-most-taken xs ys place n (omega (arith, lt)) (omega (arith, le)) (λ k below. each (suc k) (omega (arith, below)))
      next,
)
