-- Clauses, and what a list of literals makes.
use Rattle.std.specs.Prelude.{ℕ, ◌≡◌, ◌||◌, ◌<◌, Bool, true, false, if◌then◌else◌, List, [], ◌∷◌, ◌++◌}
use Rattle.cnf_base.specs.declared.cnf.Entry.{Entry}
use Rattle.cnf_base.specs.declared.cnf.Entry.TheVariants.{Clause, True}
use Rattle.cnf_base.specs.Literals.{member, opposite, is_true, AreLiterals}

-- no literal stands twice, and none beside its opposite
abbrev pub IsClause : List ℕ → Type 0
IsClause [] = Unit {0}
IsClause (l ∷ ls) = (member l ls ≡ false) × (member (opposite l) ls ≡ false) × IsClause ls

-- whether a literal stands beside its opposite
abbrev pub has_opposites : List ℕ → Bool
has_opposites [] = false
has_opposites (l ∷ ls) = member (opposite l) ls || has_opposites ls

-- one more literal behind the others, unless it stands among them
abbrev pub with_literal : List ℕ → ℕ → List ℕ
with_literal kept l = if member l kept then kept else kept ++ l ∷ []

-- The clause of the literals `kept` and, behind them, these: one that stands before is left out, and a clause
-- with a literal beside its opposite is always true.
abbrev pub entry_of : List ℕ → List ℕ → Entry
entry_of kept [] = Clause kept
entry_of kept (l ∷ ls) = if member (opposite l) kept then True else entry_of (with_literal kept l) ls

-- truth values satisfy a clause where they make one of its literals true
abbrev pub SatisfiesClause : (ℕ → Bool) → List ℕ → Type 0
SatisfiesClause value ls = (l : ℕ) × (member l ls ≡ true) × (is_true value l ≡ true)

-- and an entry where they satisfy its clause; one that is always true they satisfy in any case
abbrev pub SatisfiesEntry : (ℕ → Bool) → Entry → Type 0
SatisfiesEntry value (Clause ls) = SatisfiesClause value ls
SatisfiesEntry value True = Unit {0}

-- An entry over the variables 1 to n. One that is always true has some variable to be written with.
abbrev pub IsEntry : ℕ → Entry → Type 0
IsEntry n (Clause ls) = IsClause ls × AreLiterals n ls
IsEntry n True = 0 < n
