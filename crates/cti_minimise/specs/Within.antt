-- Bounds, as the numbers that are allowed.
use Rattle.std.specs.Prelude.{◌≡◌, ℕ, ◌<◌, ◌≤◌, List, [], ◌∷◌, ◌++◌, length, take}
use Rattle.fol_sig.specs.Tables.{Declared}
use Rattle.cti_minimise.specs.Extents.{places}
use Rattle.cti_minimise.specs.declared.bounds.Bounds.{Bounds}

-- the numbers before the bounded one, and its bound
abbrev pub numbers_within : Bounds → List ℕ
numbers_within b = take b.place b.numbers.now ++ b.most ∷ []

-- the signature has a sort or a relation at the bounded place, and as many as there are numbers
pub record AreBoundsFor (sig : Declared) (b : Bounds) : Type 0 where
  pub place : b.place < length b.numbers.now
  pub count : length b.numbers.now ≡ places sig

-- each number of the second list bounds that of the first in its place
abbrev pub AreAtMost : List ℕ → List ℕ → Type 0
AreAtMost xs [] = Unit {0}
AreAtMost [] (y ∷ ys) = ⊥
AreAtMost (x ∷ xs) (y ∷ ys) = (x ≤ y) × AreAtMost xs ys
