-- What is written of an accepted log.
use Rattle.std.specs.Prelude.{◌≡◌, ◌≤◌, List, length, None, Ok}
use Rattle.cnf_base.specs.Formulas.{Formula}
use Rattle.lrat_log.specs.Held.{held_of}
use Rattle.lrat_log.specs.Accepted.{IsAccepted}
use Rattle.lrat_log.specs.Logs.{IsLogOver}
use Rattle.lrat_log.specs.Reading.{read_of}
use Rattle.lrat_log.specs.Writing.{text_of}
use Rattle.lrat_log.specs.declared.line.Line.{Line}
use Rattle.lrat_check.specs.Whole.{first_refusal}

-- It is read as these lines, none of which is refused.
pub record IsTakenAgain (f : Formula) (lines : List Line) : Type 0 where
  pub read : read_of f.variables (length f.clauses) (text_of lines) ≡ Ok lines
  pub accepted : first_refusal (held_of f) lines ≡ None

abbrev pub WrittenIsTaken : Type 0
WrittenIsTaken = (f : Formula) (lines : List Line) → f.variables ≤ 2147483647 → IsAccepted f lines
    → IsLogOver f.variables (length f.clauses) lines → IsTakenAgain f lines
