-- The literals of ground formulas, and formulas that are clauses already.
use Rattle.std.specs.Prelude.{◌≡◌, true, false, List, [], ◌∷◌, ◌++◌}
use Rattle.ground_terms.specs.declared.atom.Atom.{Atom}
use Rattle.ground_terms.specs.declared.ground.Junction.TheVariants.{And, Or}
use Rattle.ground_terms.specs.Same.{holds_in}
use Rattle.ground_terms.specs.Trees.{Tree, Trees, literal, node, none, part}

-- each part is a literal
abbrev pub AreLiterals : Trees → Type 0
AreLiterals none = Unit {0}
AreLiterals (part (literal a positive) ps) = AreLiterals ps
AreLiterals (part (node j qs) ps) = ⊥

-- a literal, or an Or of literals
abbrev pub IsFlat : Tree → Type 0
IsFlat (literal a positive) = Unit {0}
IsFlat (node Or ps) = AreLiterals ps
IsFlat (node And ps) = ⊥

-- each is a literal or an Or of literals
abbrev pub AreFlat : List Tree → Type 0
AreFlat [] = Unit {0}
AreFlat (p ∷ ps) = IsFlat p × AreFlat ps

-- each atom of the formulas is one of these
abbrev mutual
  pub IsOver : List Atom → Tree → Type 0
  IsOver atoms (literal a positive) = holds_in atoms a ≡ true
  IsOver atoms (node j ps) = AreOver atoms ps

  pub AreOver : List Atom → Trees → Type 0
  AreOver atoms none = Unit {0}
  AreOver atoms (part p ps) = IsOver atoms p × AreOver atoms ps

-- the atoms that are not negated, as often as they stand there
abbrev mutual
  pub positives : Tree → List Atom
  positives (literal a true) = a ∷ []
  positives (literal a false) = []
  positives (node j ps) = all_positives ps

  pub all_positives : Trees → List Atom
  all_positives none = []
  all_positives (part p ps) = positives p ++ all_positives ps
