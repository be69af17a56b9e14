-- Where the atoms of each relation and each sort begin.
use Rattle.std.proofs.Common.{◌≡◌, ℕ, suc, ◌+◌, ◌*◌, ◌<◌, ◌^◌, List, [], ◌∷◌, ◌++◌, length, get_or, min, ap}
use Rattle.std.proofs.Common.{arith}
use Rattle.std.proofs.lemmas.Nat.{mul-add-lt}
use Rattle.ground_terms.specs.TermCounts.{sum_below}
use Rattle.ground_terms.specs.AtomNumbers.{equation_atoms}
use Rattle.ground_terms.specs.AtomSpaces.{AreEquationFirsts}
use Rattle.ground_terms.proofs.AtomRows.{row-ends}
use Rattle.ground_terms.proofs.Pushes.{AreValues, values-more}

-- a sum that is counted up to a limit
pub sum-more : (f : ℕ → ℕ) (r most before count : ℕ) → before ≡ min (sum_below r f) most → count ≡ min (f r) most
    → min (before + count) most ≡ min (sum_below (r + 1) f) most
sum-more f r most before count b n =
    let next : sum_below (r + 1) f ≡ sum_below r f + f r =
    ap (λ m. sum_below m f) (let e : r + 1 ≡ suc r = omega arith in e) in
    omega (arith, b, n, next)

pub one-first : (g : ℕ → ℕ) (xs : List ℕ) → xs ≡ [] → (x : ℕ) (ys : List ℕ) → ys ≡ xs ++ x ∷ [] → x ≡ g 0
    → AreValues g 1 ys
one-first g xs none x ys e is =
    values-more g 0 x xs ys (record { long = ap length none; each = λ i lt. absurd (omega (arith, lt)) }) e is

-- an equation's number among the equations
pub record EquationNumber (counts firsts : List ℕ) (k x y : ℕ) : Type 0 where
  pub exact : get_or firsts k 0 + (x * get_or counts k 0 + y) ≡ equation_atoms counts k + (x * get_or counts k 0 + y)
  pub within : get_or firsts k 0 + (x * get_or counts k 0 + y) < equation_atoms counts (length counts)

pub equation-number : (counts firsts : List ℕ) (k x y : ℕ) → AreEquationFirsts counts firsts
    → equation_atoms counts (length counts) < 2 ^ 32 → k < length counts → x < get_or counts k 0 → y < get_or counts k 0
    → EquationNumber counts firsts k x y
equation-number counts firsts k x y are few known left right =
    let n = get_or counts k 0 in
    let room : x * n + y < n * n = mul-add-lt x n y n left right in
    let ends = row-ends (λ q. get_or counts q 0 * get_or counts q 0) k (length counts) known in
    let first = (are k (omega (arith, known))).1 in
    let same : get_or firsts k 0 ≡ equation_atoms counts k = omega (arith, room, ends, first, few) in
    record { exact = ap (λ m. m + (x * n + y)) same; within = omega (arith, room, ends, same) }
