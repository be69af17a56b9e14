-- A structure that is read back from the truth of the ground atoms.
use Rattle.std.specs.Prelude.{ℕ, ◌<◌, ◌≤◌, Bool, slice_index}
use Rattle.fol_sig.specs.Tables.{Tables, size_at}
use Rattle.fol_sig.specs.Symbols.{Symbols, FitsStructure}
use Rattle.ground_terms.specs.Terms.{Lists, term_counts}
use Rattle.ground_terms.specs.Numberings.{numbering}
use Rattle.ground_terms.specs.Values.{Elements, AreValues, Realises, IsOnto}
use Rattle.ground_terms.specs.declared.atom.Atom.{Atom}

-- It has the symbols; each ground term has an element, which is its value; each atom is true of these elements as
-- assigned; and each element is that of a term, so that no sort has more elements than terms.
pub record IsReadBack (sig : Symbols) (lists : Lists) (a : Atom → Bool) (s : Tables) : Type 0 where
  pub elements : Elements
  pub fits : FitsStructure sig s
  pub values : AreValues sig lists s elements
  pub realises : Realises sig (numbering sig lists) a s elements
  pub onto : IsOnto sig (numbering sig lists) s elements
  pub few : (k : ℕ) → k < sig.sorts → size_at s k ≤ slice_index (term_counts lists) k
