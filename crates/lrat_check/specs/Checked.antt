-- What contracts see of a checker: the formula that it was made from, and the lines that it accepted.
use Rattle.std.specs.Prelude.{ℕ, Bool, List, length, ◌≡◌}
use Rattle.cnf_base.specs.Clauses.{SatisfiesClause}
use Rattle.cnf_base.specs.Formulas.{Formula}
use Rattle.lrat_log.specs.declared.line.Line.{Line}
use Rattle.lrat_log.specs.declared.line.Line.TheVariants.{Add, Delete}
use Rattle.lrat_log.specs.declared.outcome.Outcome.{Outcome}
use Rattle.lrat_log.specs.declared.outcome.Outcome.TheVariants.{Refused}
use Rattle.lrat_log.specs.Held.{Held, held_of, after_lines, SatisfiesHeld}
use Rattle.lrat_log.specs.Accepted.{last_id, IsFit}
use Rattle.lrat_check.specs.declared.checker.Refusal.{Refusal}

-- the formula, and the lines that were accepted so far, in order
pub record Checked : Type 0 where
  pub formula : Formula
  pub lines : List Line

-- the held clauses
abbrev pub held_now : Checked → Held
held_now c = after_lines (held_of c.formula) c.lines

-- the greatest id so far
abbrev pub last_of : Checked → ℕ
last_of c = last_id (length c.formula.clauses) c.lines

-- an addition's id is above the last, and its literals are of the formula's variables
abbrev pub MayStep : Checked → Line → Type 0
MayStep c line = IsFit c.formula.variables (last_of c) line

-- the clause of an addition is satisfied by truth values that satisfy the held clauses
abbrev pub Follows : Checked → Line → Type 0
Follows c (Add id ls hints) = (value : ℕ → Bool) → SatisfiesHeld value (held_now c) → SatisfiesClause value ls
Follows c (Delete id ids) = Unit {0}

-- the id at the start of the line
abbrev pub id_of : Line → ℕ
id_of (Add id ls hints) = id
id_of (Delete id ids) = id

-- the code of the outcome, with the line's id
abbrev pub IsRefusal : Outcome → Line → Refusal → Type 0
IsRefusal outcome line r = (outcome ≡ Refused r.code) × (r.id ≡ id_of line)
