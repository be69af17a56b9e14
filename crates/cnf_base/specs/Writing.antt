-- The text of a formula in the format DIMACS CNF: the header, then a clause a line.
use Rattle.std.specs.Prelude.{◌≡◌, ℕ, ◌≤◌, List, [], ◌∷◌, ◌++◌, length, codes, decimal, if◌then◌else◌}
use Rattle.cnf_base.specs.declared.cnf.Entry.{Entry}
use Rattle.cnf_base.specs.declared.cnf.Entry.TheVariants.{Clause, True}
use Rattle.cnf_base.specs.Literals.{variable_of, is_positive}
use Rattle.cnf_base.specs.Numerals.{max_number}
use Rattle.cnf_base.specs.Formulas.{Formula, IsFormula}

-- 45 is the sign, 32 a blank, 10 a line feed
abbrev pub literal_text : ℕ → List ℕ
literal_text l = if is_positive l then decimal (variable_of l) else 45 ∷ decimal (variable_of l)

-- each literal with a blank behind it
abbrev pub literals_text : List ℕ → List ℕ
literals_text [] = []
literals_text (l ∷ ls) = literal_text l ++ 32 ∷ literals_text ls

-- a clause ends with 0; one that is always true is written as variable 1 beside its opposite
abbrev pub entry_text : Entry → List ℕ
entry_text (Clause ls) = literals_text ls ++ codes "0\n"
entry_text True = codes "1 -1 0\n"

-- the clauses, one a line
abbrev pub entries_text : List Entry → List ℕ
entries_text [] = []
entries_text (e ∷ es) = entry_text e ++ entries_text es

-- the header, with the numbers of variables and of clauses, and the clauses
abbrev pub text_of : Formula → List ℕ
text_of f = codes "p cnf " ++ decimal f.variables ++ 32 ∷ decimal (length f.clauses) ++ 10 ∷ entries_text f.clauses

-- what a text can say
pub record CanWrite (f : Formula) : Type 0 where
  pub variables : f.variables ≤ max_number
  pub clauses : length f.clauses ≤ max_number
  pub formula : IsFormula f

-- behind what was there stands a front of a text, of which this is left
pub record IsWritten (old new text left : List ℕ) : Type 0 where
  pub front : List ℕ
  pub whole : front ++ left ≡ text
  pub behind : new ≡ old ++ front

-- behind what was there stands a front of a text, and nothing else
abbrev pub HasFront : List ℕ → List ℕ → List ℕ → Type 0
HasFront old new text = (left : List ℕ) × IsWritten old new text left
