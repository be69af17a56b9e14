-- The classes of the terms that have one leader, which are numbered in the order of their leaders.
use Rattle.std.specs.Prelude.{◌≡◌, ℕ, ◌<◌, ◌≤◌, Bool, ◌==◌, List, length, map, slice_index}
use Rattle.fol_sig.specs.declared.Sort.{Sort}
use Rattle.fol_sig.specs.Symbols.{Symbols}
use Rattle.ground_terms.specs.declared.atom.Atom.{Atom}
use Rattle.ground_terms.specs.declared.atom.Atom.TheVariants.{Eq}
use Rattle.structure_back.specs.Rows.{Rows, row_of, looked_up}

-- no leader stands behind its term, and each leads itself
pub record IsLed (leaders : List ℕ) : Type 0 where
  pub first : (x : ℕ) → x < length leaders → slice_index leaders x ≤ x
  pub itself : (x : ℕ) → x < length leaders → slice_index leaders (slice_index leaders x) ≡ slice_index leaders x

-- the row of each sort is of such leaders
abbrev pub AreLed : Rows → Type 0
AreLed rows = (k : ℕ) → k < length rows → IsLed (row_of rows k)

-- the first n terms have the numbers of their classes, and each class a member, its leader
pub record IsNumbered (leaders : List ℕ) (n : ℕ) (numbers members : List ℕ) : Type 0 where
  pub long : length numbers ≡ n
  pub few : length members ≤ n
  pub within : (x : ℕ) → x < n → slice_index numbers x < length members
  pub leader : (x : ℕ) → x < n → slice_index members (slice_index numbers x) ≡ slice_index leaders x
  pub member_within : (c : ℕ) → c < length members → slice_index members c < n
  pub member_number : (c : ℕ) → c < length members → slice_index numbers (slice_index members c) ≡ c
  pub first : 0 < n → slice_index numbers 0 ≡ 0

-- the same of the first n sorts
pub record AreNumbered (leaders : Rows) (n : ℕ) (sizes : List ℕ) (numbers members : Rows) : Type 0 where
  pub sorts : length numbers ≡ n
  pub members_sorts : length members ≡ n
  pub sizes_are : map length members ≡ sizes
  pub each : (k : ℕ) → k < n → IsNumbered (row_of leaders k) (length (row_of leaders k)) (row_of numbers k)
      (row_of members k)

-- the classes of equal terms: each term has one, each has a term, and two terms have one class where they are called
-- equal
pub record AreClasses (sig : Symbols) (counts : List ℕ) (a : Atom → Bool) (sizes : List ℕ)
    (numbers members : Rows) : Type 0 where
  pub sorts : length sizes ≡ sig.sorts
  pub numbers_long : map length numbers ≡ counts
  pub members_long : map length members ≡ sizes
  pub some : (k : ℕ) → k < sig.sorts → 0 < slice_index sizes k
  pub first : (k : ℕ) → k < sig.sorts → looked_up numbers k 0 ≡ 0
  pub few : (k : ℕ) → k < sig.sorts → slice_index sizes k ≤ slice_index counts k
  pub within : (k x : ℕ) → k < sig.sorts → x < slice_index counts k → looked_up numbers k x < slice_index sizes k
  pub member_within : (k c : ℕ) → k < sig.sorts → c < slice_index sizes k → looked_up members k c < slice_index counts k
  pub member_number : (k c : ℕ) → k < sig.sorts → c < slice_index sizes k
      → looked_up numbers k (looked_up members k c) ≡ c
  pub equal : (k : Sort) (x y : ℕ) → k.0 < sig.sorts → x < slice_index counts k.0 → y < slice_index counts k.0
      → a (Eq k x y) ≡ (looked_up numbers k.0 x == looked_up numbers k.0 y)
