-- How the variables of atoms are kept.
use Rattle.std.specs.Prelude.{◌≡◌, ℕ, zero, suc, ◌<◌, ◌^◌, List, Option, Some, None, slice_index}
use Rattle.std.specs.Option.{unwrap_or}
use Rattle.fol_sig.specs.Symbols.{symbols}
use Rattle.ground_terms.specs.declared.atom.Atom.{Atom}
use Rattle.ground_terms.specs.AtomNumbers.{FitsAtom, atom_number, atom_count}
use Rattle.ground_terms.specs.AtomSpaces.{AtomSpace}
use Rattle.clause_form.specs.Numbers.{variable_in}

-- 0 stands for no variable
abbrev pub some_variable : ℕ → Option ℕ
some_variable zero = None
some_variable (suc n) = Some (suc n)

-- the atom has a number
abbrev pub IsNumbered : AtomSpace → Atom → Type 0
IsNumbered s a = FitsAtom (symbols s.signature) s.counts a × (atom_count (symbols s.signature) s.counts < 2 ^ 32)

-- each atom that has a number has its variable there in the row, and 0 where it has none
pub record FindsEach (s : AtomSpace) (row : List ℕ) (atoms : List (Atom × ℕ)) : Type 0 where
  pub found : (a : Atom) → IsNumbered s a
      → slice_index row (atom_number (symbols s.signature) s.counts a) ≡ unwrap_or (variable_in atoms a) 0
  pub given : (a : Atom) (n : ℕ) → variable_in atoms a ≡ Some n → (0 < n) × (n < 2 ^ 31)
