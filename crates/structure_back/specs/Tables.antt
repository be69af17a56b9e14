-- The tables of relations and functions at classes.
use Rattle.std.specs.Prelude.{◌≡◌, ℕ, ◌<◌, ◌⊎◌, Bool, true, List, length, map, slice_index}
use Rattle.fol_sig.specs.declared.RelId.{RelId}
use Rattle.fol_sig.specs.Symbols.{Symbols}
use Rattle.fol_sig.specs.Tables.{Tables, InRange, tuple_count, rel_at, fun_at}
use Rattle.fol_sig.specs.Tuples.{tuple_at}
use Rattle.ground_terms.specs.Numberings.{Numbering}
use Rattle.ground_terms.specs.Values.{Elements, elements_of}
use Rattle.ground_terms.specs.AtomNumbers.{FitsAtom}
use Rattle.ground_terms.specs.declared.atom.Atom.{Atom}
use Rattle.ground_terms.specs.declared.atom.Atom.TheVariants.{Rel}
use Rattle.structure_back.specs.Rows.{Rows, looked_up}

-- each term has a class
pub record AreInClasses (sig : Symbols) (counts sizes : List ℕ) (numbers : Rows) : Type 0 where
  pub sorts : length sizes ≡ sig.sorts
  pub long : map length numbers ≡ counts
  pub within : (k x : ℕ) → k < sig.sorts → x < slice_index counts k → looked_up numbers k x < slice_index sizes k

-- and each class a member
pub record HaveMembers (sig : Symbols) (counts sizes : List ℕ) (numbers members : Rows) : Type 0 where
  pub classes : AreInClasses sig counts sizes numbers
  pub long : map length members ≡ sizes
  pub within : (k c : ℕ) → k < sig.sorts → c < slice_index sizes k → looked_up members k c < slice_index counts k

-- the atom is a relation at terms that have these elements
abbrev pub HasElements : Symbols → List ℕ → Elements → Atom → RelId → List ℕ → Type 0
HasElements sig counts v atom r cs =
    (xs : List ℕ) × FitsAtom sig counts (Rel r xs) × (atom ≡ Rel r xs) × (elements_of v (sig.sorts_of r.0) xs ≡ cs)

-- the structure is true at the elements of the atom's terms, and else as before
pub record SetsAtom (sig : Symbols) (counts : List ℕ) (v : Elements) (atom : Atom) (old new : Tables) : Type 0 where
  pub set : (r : RelId) (xs : List ℕ) → FitsAtom sig counts (Rel r xs) → atom ≡ Rel r xs
      → rel_at new r.0 (elements_of v (sig.sorts_of r.0) xs) ≡ true
  pub kept : (r : ℕ) (cs : List ℕ) → r < sig.relations → InRange old.sizes (sig.sorts_of r) cs → rel_at old r cs ≡ true
      → rel_at new r cs ≡ true
  pub source : (r : RelId) (cs : List ℕ) → r.0 < sig.relations → InRange old.sizes (sig.sorts_of r.0) cs
      → rel_at new r.0 cs ≡ true
      → (rel_at old r.0 cs ≡ true) ⊎ HasElements sig counts v atom r cs

-- a relation is true at the elements of the terms of each true atom, and nowhere else
pub record AreRelationsRead (sig : Symbols) (counts : List ℕ) (a : Atom → Bool) (v : Elements)
    (s : Tables) : Type 0 where
  pub whole : (r : RelId) (xs : List ℕ) → FitsAtom sig counts (Rel r xs) → a (Rel r xs) ≡ true
      → rel_at s r.0 (elements_of v (sig.sorts_of r.0) xs) ≡ true
  pub only : (r : RelId) (cs : List ℕ) → r.0 < sig.relations → InRange s.sizes (sig.sorts_of r.0) cs
      → rel_at s r.0 cs ≡ true
      → (atom : Atom) × HasElements sig counts v atom r cs × (a atom ≡ true)

-- the class of a function's application to members of classes
abbrev pub value_at : Symbols → Numbering → Elements → Elements → ℕ → List ℕ → ℕ
value_at sig names v member f cs = v (sig.into_of f) (names.place f (elements_of member (sig.from_of f) cs))

-- these classes for each tuple
pub record AreCells (sig : Symbols) (names : Numbering) (sizes : List ℕ) (v member : Elements) (f : ℕ)
    (cells : List ℕ) : Type 0 where
  pub long : length cells ≡ tuple_count sizes (sig.from_of f)
  pub each : (n : ℕ) → n < length cells
      → slice_index cells n ≡ value_at sig names v member f (tuple_at sizes (sig.from_of f) n)
  pub within : (n : ℕ) → n < length cells → slice_index cells n < slice_index sizes (sig.into_of f)

-- at classes a function has the class of its application to their members
abbrev pub AreFunctionsRead : Symbols → Numbering → Elements → Elements → Tables → Type 0
AreFunctionsRead sig names v member s = (f : ℕ) (cs : List ℕ) → f < sig.functions → InRange s.sizes (sig.from_of f) cs
    → fun_at s f cs ≡ value_at sig names v member f cs
