-- The atoms of a signature over so many terms of each sort, and where each relation's and each sort's atoms begin.
use Rattle.std.specs.Prelude.{◌≡◌, ℕ, ◌<◌, ◌≤◌, ◌^◌, Bool, IsTrue, ◌↔◌, List, length, min, slice_index}
use Rattle.fol_sig.specs.Tables.{Declared}
use Rattle.fol_sig.specs.Symbols.{symbols}
use Rattle.ground_terms.specs.AtomNumbers.{relation_atoms, equation_atoms, atom_count}

-- the signature, and how many terms each sort has
pub record AtomSpace : Type 0 where
  pub signature : Declared
  pub counts : List ℕ

-- how many atoms stand before each relation, and behind the last one how many in all; they are counted up to 2^64 - 1
abbrev pub AreRelationFirsts : AtomSpace → List ℕ → Type 0
AreRelationFirsts s firsts =
    (r : ℕ) → r ≤ length s.signature.relations
    → (r < length firsts)
    × (slice_index firsts r ≡ min (relation_atoms (symbols s.signature) s.counts r) 18446744073709551615)

-- the same of the equations of each sort
abbrev pub AreEquationFirsts : List ℕ → List ℕ → Type 0
AreEquationFirsts counts firsts =
    (k : ℕ) → k ≤ length counts
    → (k < length firsts) × (slice_index firsts k ≡ min (equation_atoms counts k) 18446744073709551615)

-- the sort is one that there is, and so are the terms
abbrev pub IsEquation : List ℕ → ℕ → ℕ → ℕ → Type 0
IsEquation counts k x y = (k < length counts) × (x < slice_index counts k) × (y < slice_index counts k)

-- how many atoms stand before those of each relation and of each sort, and whether all have numbers below 2^32
pub record AreFirsts (s : AtomSpace) (relations equations : List ℕ) (few : Bool) : Type 0 where
  pub counted : length s.counts ≡ s.signature.sorts
  pub relations_first : AreRelationFirsts s relations
  pub equations_first : AreEquationFirsts s.counts equations
  pub few_atoms : IsTrue few ↔ (atom_count (symbols s.signature) s.counts < 2 ^ 32)
