-- What following a path answers.
use Rattle.std.specs.Prelude.{Option, Some, None}
use Rattle.fol_sig.specs.Symbols.{Symbols, FitsStructure}
use Rattle.rml_command.specs.Outcomes.{Outcome, ended, aborted}
use Rattle.rml_exec.specs.declared.trace.Followed.{Followed}
use Rattle.rml_exec.specs.declared.trace.Followed.TheVariants.{Ended, Aborted, Blocked}

-- the outcome that it stands for, or None where a step is blocked
abbrev pub outcome_of : Followed → Option Outcome
outcome_of (Ended s) = Some (ended s)
outcome_of Aborted = Some aborted
outcome_of Blocked = None

-- it ends in a structure of these symbols
abbrev pub EndFits : Symbols → Followed → Type 0
EndFits sig (Ended s) = FitsStructure sig s
EndFits sig Aborted = Unit {0}
EndFits sig Blocked = Unit {0}
