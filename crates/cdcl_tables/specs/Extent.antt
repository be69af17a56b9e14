-- Up to which variable clauses go.
use Rattle.std.specs.Prelude.{ℕ, ◌<◌, ◌≤◌, ◌≡◌, true, List, get_or}
use Rattle.cnf_base.specs.declared.cnf.Entry.{Entry}
use Rattle.cnf_base.specs.declared.cnf.Entry.TheVariants.{Clause, True}
use Rattle.cnf_base.specs.Literals.{variable_of, member}

-- the variables of each of the first i clauses are at most n
abbrev pub AreUpTo : ℕ → List Entry → ℕ → Type 0
AreUpTo n es i = (k : ℕ) (c : List ℕ) → k < i → get_or es k True ≡ Clause c → (l : ℕ) → member l c ≡ true
    → variable_of l ≤ n

-- a variable stands in a clause
abbrev pub StandsIn : ℕ → List ℕ → Type 0
StandsIn v c = (l : ℕ) × (member l c ≡ true) × (variable_of l ≡ v)

-- a variable stands in one of the first i clauses
abbrev pub StandsAmong : ℕ → List Entry → ℕ → Type 0
StandsAmong v es i = (k : ℕ) × (c : List ℕ) × (k < i) × (get_or es k True ≡ Clause c) × StandsIn v c
