-- What bounds say.
use Rattle.std.specs.Prelude.{◌≡◌, ◌↔◌, ℕ, ◌<◌, ◌≤◌, true, [], length, get_or}
use Rattle.fol_sig.specs.Tables.{Tables, Declared, size_at, relation_at}
use Rattle.fol_sig.specs.Symbols.{FitsStructure, AreSorted, symbols}
use Rattle.fol_formula.specs.Syntax.{FormTree}
use Rattle.fol_formula.specs.Fits.{FitsForm}
use Rattle.fol_formula.specs.Fragments.{IsEa}
use Rattle.fol_formula.specs.Sentences.{is_true}
use Rattle.cti_minimise.specs.Extents.{true_tuples, extent, places}
use Rattle.cti_minimise.specs.Bounding.{relation_bound}

-- Sentences that bound the numbers of an extent, said so.
pub record AreBounds (sig : Declared) (said : ℕ → ℕ → FormTree) : Type 0 where
  -- a structure satisfies one exactly where its number at the place is at most n
  pub exact : (s : Tables) (place n : ℕ) → FitsStructure (symbols sig) s → place < places sig
      → (is_true s (said place n) ≡ true) ↔ (get_or (extent s) place 0 ≤ n)
  -- each is an exists-forall sentence of the signature
  pub fragment : (place n : ℕ) → IsEa (said place n)
  pub fits : (place n : ℕ) → AreSorted (symbols sig) → place < places sig
      → FitsForm (symbols sig) [] (said place n)

-- Sentences that are true within bounds.
pub record AreImplied (sig : Declared) (said : ℕ → ℕ → FormTree) : Type 0 where
  pub implied : (s : Tables) (place n : ℕ) → FitsStructure (symbols sig) s → place < places sig
      → get_or (extent s) place 0 ≤ n → is_true s (said place n) ≡ true
  pub fragment : (place n : ℕ) → IsEa (said place n)
  pub fits : (place n : ℕ) → AreSorted (symbols sig) → place < places sig
      → FitsForm (symbols sig) [] (said place n)

-- A bound on the size of a sort, said either way, is true exactly where the sort has at most so many elements.
abbrev pub SizesAreBounded : (ℕ → ℕ → FormTree) → Type 0
SizesAreBounded said = (s : Tables) (k n : ℕ) → 0 < size_at s k → (is_true s (said k n) ≡ true) ↔ (size_at s k ≤ n)

-- A bound on a relation is true exactly where the relation is true of at most so many tuples.
abbrev pub TuplesAreBounded : Type 0
TuplesAreBounded =
    (sig : Declared) (s : Tables) (r n : ℕ) → FitsStructure (symbols sig) s → r < length sig.relations
    → (is_true s (relation_bound sig r n) ≡ true) ↔ (true_tuples s.sizes (relation_at s r) ≤ n)
