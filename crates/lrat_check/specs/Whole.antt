-- The first line of a log that is not accepted.
use Rattle.std.specs.Prelude.{List, [], ◌∷◌, Option, Some, None}
use Rattle.lrat_log.specs.declared.line.Line.{Line}
use Rattle.lrat_log.specs.declared.outcome.Outcome.{Outcome}
use Rattle.lrat_log.specs.declared.outcome.Outcome.TheVariants.{Accepted, Refused}
use Rattle.lrat_log.specs.Held.{Held, after_line}
use Rattle.lrat_log.specs.Accepted.{outcome_of}
use Rattle.lrat_check.specs.declared.checker.Refusal.{Refusal}
use Rattle.lrat_check.specs.Checked.{id_of}

-- the refusal of a line, or what comes next where it is accepted
abbrev pub refusal_or : Outcome → Line → Option Refusal → Option Refusal
refusal_or Accepted line next = next
refusal_or (Refused code) line next = Some (record { code = code; id = id_of line })

-- the refusal of the first of these lines that is not accepted, if there is one
abbrev pub first_refusal : Held → List Line → Option Refusal
first_refusal held [] = None
first_refusal held (line ∷ lines) = refusal_or (outcome_of held line) line (first_refusal (after_line held line) lines)
