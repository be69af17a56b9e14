-- Formulas in conjunctive normal form, and their truth.
use Rattle.std.specs.Prelude.{ℕ, ◌-◌, ◌≡◌, Bool, false, List, [], ◌∷◌, length, Some, slice_get, slice_index_or}
use Rattle.cnf_base.specs.declared.cnf.Entry.{Entry}
use Rattle.cnf_base.specs.Clauses.{IsEntry, SatisfiesEntry}

-- the number of the variables, and the clauses, whose ids are 1, 2, ..
pub record Formula : Type 0 where
  pub variables : ℕ
  pub clauses : List Entry

-- each is an entry over the variables 1 to n
abbrev pub AreEntries : ℕ → List Entry → Type 0
AreEntries n [] = Unit {0}
AreEntries n (e ∷ es) = IsEntry n e × AreEntries n es

-- each clause is an entry over the formula's variables
abbrev pub IsFormula : Formula → Type 0
IsFormula f = AreEntries f.variables f.clauses

-- truth values satisfy a formula where they satisfy each of its clauses
abbrev pub Satisfies : (ℕ → Bool) → Formula → Type 0
Satisfies value f = (k : ℕ) (e : Entry) → slice_get f.clauses k ≡ Some e → SatisfiesEntry value e

-- no truth values satisfy the formula
abbrev pub IsUnsatisfiable : Formula → Type 0
IsUnsatisfiable f = (value : ℕ → Bool) → Satisfies value f → ⊥

-- the value of a variable, from 1, in a list of values
abbrev pub value_of : List Bool → ℕ → Bool
value_of values v = slice_index_or values (v - 1) false

-- a truth value for each variable, which satisfy the formula
abbrev pub IsModel : Formula → List Bool → Type 0
IsModel f values = (length values ≡ f.variables) × Satisfies (value_of values) f
