-- The leader of each term: the least term that is called equal to it.
use Rattle.std.specs.Prelude.{◌≡◌, ℕ, ◌<◌, ◌≤◌, ◌⊎◌, Bool, true, List, length, map, slice_index}
use Rattle.fol_sig.specs.declared.Sort.{Sort}
use Rattle.ground_terms.specs.declared.atom.Atom.{Atom}
use Rattle.ground_terms.specs.declared.atom.Atom.TheVariants.{Eq}
use Rattle.structure_back.specs.Rows.{Rows, looked_up}

-- each number below n stands at its own place
pub record IsOwn (n : ℕ) (row : List ℕ) : Type 0 where
  pub long : length row ≡ n
  pub each : (x : ℕ) → x < n → slice_index row x ≡ x

-- rows of these lengths in which each number stands at its own place
pub record AreOwn (counts : List ℕ) (rows : Rows) : Type 0 where
  pub long : map length rows ≡ counts
  pub each : (k x : ℕ) → x < slice_index counts k → looked_up rows k x ≡ x

-- each term is called equal to itself
abbrev pub AreReflexive : List ℕ → (Atom → Bool) → Type 0
AreReflexive counts a = (k : Sort) (x : ℕ) → k.0 < length counts → x < slice_index counts k.0 → a (Eq k x x) ≡ true

-- what an equation does to the leaders: that of its right side is not above its left side, and each is as before or the
-- left side of this equation
pub record Lowers (counts : List ℕ) (atom : Atom) (old new : Rows) : Type 0 where
  pub long : map length new ≡ counts
  pub lower : (k x : ℕ) → looked_up new k x ≤ looked_up old k x
  pub source : (k : Sort) (x : ℕ) → (looked_up new k.0 x ≡ looked_up old k.0 x) ⊎ (atom ≡ Eq k (looked_up new k.0 x) x)
  pub met : (k : Sort) (x y : ℕ) → k.0 < length counts → x < slice_index counts k.0 → atom ≡ Eq k y x
      → looked_up new k.0 x ≤ y

-- each leader is called equal to its term, and is the least such
pub record AreLeaders (counts : List ℕ) (a : Atom → Bool) (rows : Rows) : Type 0 where
  pub long : map length rows ≡ counts
  pub first : (k x : ℕ) → x < slice_index counts k → looked_up rows k x ≤ x
  pub equal : (k : Sort) (x : ℕ) → k.0 < length counts → x < slice_index counts k.0
      → a (Eq k (looked_up rows k.0 x) x) ≡ true
  pub least : (k : Sort) (x y : ℕ) → k.0 < length counts → x < slice_index counts k.0 → a (Eq k y x) ≡ true
      → looked_up rows k.0 x ≤ y
