-- The variables, by first occurrence in prefix order: one for each atom, and one for each And and each Or.
use Rattle.std.specs.Prelude.{ℕ, ◌+◌, Bool, true, List, [], ◌∷◌, ◌++◌, Option, Some, None}
use Rattle.std.specs.Map.{lookup}
use Rattle.std.specs.Option.{unwrap_or}
use Rattle.cnf_base.specs.Literals.{literal_of}
use Rattle.ground_terms.specs.declared.atom.Atom.{Atom}
use Rattle.ground_terms.specs.Same.{same_atom}
use Rattle.ground_terms.specs.Trees.{Tree, Trees, literal, node, none, part}

-- how many variables were given, and which atoms have one, in the order of their variables
pub record Numbers : Type 0 where
  pub variables : ℕ
  pub atoms : List (Atom × ℕ)

-- no variable is given yet
abbrev pub start : Numbers
start = record { variables = 0; atoms = [] }

-- the variable of an atom, if it has one
abbrev pub variable_in : List (Atom × ℕ) → Atom → Option ℕ
variable_in atoms a = lookup (same_atom a) atoms

-- an And or an Or takes the next variable
abbrev pub with_place : Numbers → Numbers
with_place n = record { variables = n.variables + 1; atoms = n.atoms }

-- so does an atom that has none
abbrev pub with_atom_by : Option ℕ → Numbers → Atom → Numbers
with_atom_by (Some v) n a = n
with_atom_by None n a = record { variables = n.variables + 1; atoms = n.atoms ++ (a, n.variables + 1) ∷ [] }

-- the numbers behind an atom
abbrev pub with_atom : Numbers → Atom → Numbers
with_atom n a = with_atom_by (variable_in n.atoms a) n a

-- the numbers behind a formula
abbrev mutual
  pub after : Numbers → Tree → Numbers
  after n (literal a positive) = with_atom n a
  after n (node j ps) = after_all (with_place n) ps

  pub after_all : Numbers → Trees → Numbers
  after_all n none = n
  after_all n (part p ps) = after_all (after n p) ps

-- the variable of an atom that comes next
abbrev pub atom_variable : Numbers → Atom → ℕ
atom_variable n a = unwrap_or (variable_in n.atoms a) (n.variables + 1)

-- the literal that stands for an atom that comes next, as it stands or negated
abbrev pub atom_lit : Numbers → Atom → Bool → ℕ
atom_lit n a positive = literal_of positive (atom_variable n a)

-- the literal that stands for an And or an Or that comes next
abbrev pub place_lit : Numbers → ℕ
place_lit n = literal_of true (n.variables + 1)

-- the literal that stands for a formula that comes next
abbrev pub lit_of : Numbers → Tree → ℕ
lit_of n (literal a positive) = atom_lit n a positive
lit_of n (node j ps) = place_lit n

-- the literals that stand for some formulas that come next
abbrev pub lits_of : Numbers → Trees → List ℕ
lits_of n none = []
lits_of n (part p ps) = lit_of n p ∷ lits_of (after n p) ps
