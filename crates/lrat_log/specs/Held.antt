-- Which clauses are held before and after the lines of a log.
use Rattle.std.specs.Prelude.{ℕ, ◌-◌, ◌≡◌, ◌==◌, Bool, if◌then◌else◌, List, [], ◌∷◌, Option, Some, None, slice_get}
use Rattle.cnf_base.specs.declared.cnf.Entry.{Entry}
use Rattle.cnf_base.specs.declared.cnf.Entry.TheVariants.{Clause, True}
use Rattle.cnf_base.specs.Literals.{member}
use Rattle.cnf_base.specs.Clauses.{has_opposites, SatisfiesEntry}
use Rattle.cnf_base.specs.Formulas.{Formula}
use Rattle.lrat_log.specs.declared.line.Line.{Line}
use Rattle.lrat_log.specs.declared.line.Line.TheVariants.{Add, Delete}

-- what each id stands for: a held clause, a held clause that is always true, or none
abbrev pub Held : Type 0
Held = ℕ → Option Entry

-- these clauses, under the ids 1, 2, ..
abbrev pub held_by : List Entry → Held
held_by entries id = if id == 0 then None else slice_get entries (id - 1)

-- what is held at first: the clauses of the formula
abbrev pub held_of : Formula → Held
held_of f = held_by f.clauses

-- with this entry under the id, in the place of any other
abbrev pub with_entry : Held → ℕ → Entry → Held
with_entry held id e k = if k == id then Some e else held k

-- without the entries under these ids
abbrev pub without : Held → List ℕ → Held
without held ids k = if member k ids then None else held k

-- an addition with opposite literals is kept as always true
abbrev pub added_entry : List ℕ → Entry
added_entry ls = if has_opposites ls then True else Clause ls

-- what is held behind a line
abbrev pub after_line : Held → Line → Held
after_line held (Add id ls hints) = with_entry held id (added_entry ls)
after_line held (Delete id ids) = without held ids

-- what is held behind these lines
abbrev pub after_lines : Held → List Line → Held
after_lines held [] = held
after_lines held (line ∷ lines) = after_lines (after_line held line) lines

-- truth values satisfy each held clause
abbrev pub SatisfiesHeld : (ℕ → Bool) → Held → Type 0
SatisfiesHeld value held = (id : ℕ) (e : Entry) → held id ≡ Some e → SatisfiesEntry value e
