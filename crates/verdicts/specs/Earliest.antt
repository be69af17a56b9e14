-- The first open goal so far. Private contracts alone cite this.
use Rattle.std.specs.Prelude.{Option, Some, None}
use Rattle.rml_report.specs.declared.report.Answer.{Answer}
use Rattle.rml_report.specs.declared.report.Answer.TheVariants as answer
use Rattle.verdicts.specs.declared.deciding.OpenGoal.{OpenGoal}

-- an open goal, or this answer where there is none
abbrev pub open_or : Option OpenGoal → Answer → Answer
open_or None a = a
open_or (Some goal) a = answer.Undecided goal.path goal.cause

-- undecided at the first open goal; `holds` where there is none
abbrev pub answer_of : Option OpenGoal → Answer
answer_of earliest = open_or earliest answer.Holds
