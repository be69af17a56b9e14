-- What the clauses mean.
use Rattle.std.specs.Prelude.{◌≡◌, ℕ, ◌+◌, Bool, List, [], ◌∷◌, Some, if◌then◌else◌}
use Rattle.cnf_base.specs.Formulas.{Formula, IsModel, value_of}
use Rattle.ground_terms.specs.declared.atom.Atom.{Atom}
use Rattle.ground_terms.specs.Trees.{Tree, Trees, literal, node, none, part}
use Rattle.clause_form.specs.Numbers.{start, variable_in, after_all}

-- the atoms of formulas, with their variables
abbrev pub atoms_of : Trees → List (Atom × ℕ)
atoms_of ps = (after_all start ps).atoms

-- the variable of each atom has the value that the atom has
abbrev pub Extends : (Atom → Bool) → List (Atom × ℕ) → (ℕ → Bool) → Type 0
Extends v atoms value = (a : Atom) (n : ℕ) → variable_in atoms a ≡ Some n → value n ≡ v a

-- some values of the variables extend those of the atoms and satisfy the clauses
pub record ExtendsToModel (v : Atom → Bool) (atoms : List (Atom × ℕ)) (f : Formula) : Type 0 where
  pub values : List Bool
  pub extends : Extends v atoms (value_of values)
  pub model : IsModel f values

-- the atoms whose variables are true
abbrev pub true_atoms : List Bool → List (Atom × ℕ) → List Atom
true_atoms values [] = []
true_atoms values (p ∷ ps) = if value_of values p.1 then p.0 ∷ true_atoms values ps else true_atoms values ps

-- how many And and Or there are
abbrev mutual
  pub places : Tree → ℕ
  places (literal a positive) = 0
  places (node j ps) = places_all ps + 1

  pub places_all : Trees → ℕ
  places_all none = 0
  places_all (part p ps) = places p + places_all ps
