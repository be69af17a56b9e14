-- `replay MODEL REPORT`: whether a printed report of the model is right, by truth and outcomes alone.
use Rattle.std.specs.Prelude.{◌≡◌, ℕ, List, ◌++◌, codes}
use Rattle.std.specs.Fmt.{decimal}
use Rattle.rml_command.specs.Models.{ModelTree}
use Rattle.line_scan.specs.Lines.{lines_of}
use Rattle.printed_report.specs.PrintedReports.{IsPrintedReport, IsUnread}
use Rattle.printed_report.specs.declared.printed.Printed.{Printed}
use Rattle.report_replay.specs.DenialCodes as denial
use Rattle.report_replay.specs.Judgements.{judgement, demands}
use Rattle.report_replay.specs.Laws.{IsConfirmed, IsFirstBroken}
use Rattle.report_replay.specs.declared.judged.Judged.{Judged}
use Rattle.report_replay.specs.declared.judged.Judged.TheVariants.{Confirmed, Denied}
use Rattle.commands.specs.Due.{Due}
use Rattle.command_parts.specs.Saying.{on_out, on_err}
use Rattle.command_parts.specs.Faults.{model_fault_due}
use Rattle.command_parts.specs.ModelTexts.{IsTheModel, IsTheFault}
use Rattle.replay_command.specs.declared.replay.ReplayAnswer.{ReplayAnswer}
use Rattle.replay_command.specs.declared.replay.ReplayAnswer.TheVariants.{Fault, Unread, Replayed}

-- a report file has at most so many bytes
abbrev pub report_limit : ℕ
report_limit = 268435456

-- Confirmed: each execution that is shown is a counterexample of its goal and ends as is printed, and the verdict is
-- that of the groups. Denied: what the line says is not so, and no line before it says what is not so.
abbrev pub IsJudged : ModelTree → Printed → Judged → Type 0
IsJudged m p (Confirmed n) = IsConfirmed m p n
IsJudged m p (Denied line code) = IsFirstBroken (demands m p) line code

-- The text is a printed report of the model, and says this alone, of which this is found.
pub record IsReplay (m : ModelTree) (text : List ℕ) (judged : Judged) : Type 0 where
  pub printed : Printed
  pub is_report : IsPrintedReport m text printed
  pub only : (p : Printed) → IsPrintedReport m text p → printed ≡ p
  pub is : judged ≡ judgement m printed
  pub right : IsJudged m printed judged

-- The first line that no printed report of the model has behind those before it; and the text is no printed report.
pub record IsNoReport (m : ModelTree) (text : List ℕ) (line : ℕ) : Type 0 where
  pub unread : IsUnread m (lines_of text) line
  pub none : (p : Printed) → IsPrintedReport m text p → ⊥

-- what is found of the text, as a report of the model
abbrev pub IsFound : ModelTree → List ℕ → ReplayAnswer → Type 0
IsFound m text (Fault fault) = ⊥
IsFound m text (Unread unread) = IsNoReport m text unread.line
IsFound m text (Replayed judged) = IsReplay m text judged

-- The fault of the model's text; or of its one model, what is so of the report.
abbrev pub IsReplayAnswer : List ℕ → List ℕ → ReplayAnswer → Type 0
IsReplayAnswer text report (Fault fault) = IsTheFault text fault
IsReplayAnswer text report a = (m : ModelTree) × IsTheModel text m × IsFound m report a

-- `P1 at line LINE: TEXT`
unfoldable pub denial_line : ℕ → ℕ → List ℕ → List ℕ
denial_line number line text =
    codes "P" ++ decimal number ++ codes " at line " ++ decimal line ++ codes ": " ++ text ++ codes "\n"

-- how many executions are confirmed, and the verdict
unfoldable pub confirmed_text : ℕ → List ℕ
confirmed_text n = codes "executions " ++ decimal n ++ codes "\nverdict: confirmed\n"

-- the confirmation with status 0, or the denied line with status 1
abbrev pub judged_due : Judged → Due
judged_due (Confirmed n) = on_out (confirmed_text n) 0
judged_due (Denied line code) = on_out (denial_line (denial.number_of code) line (denial.text_of code)) 1

-- the judgement; or the line of the model's fault, or of the first unexpected line
abbrev pub replay_due : List ℕ → ReplayAnswer → Due
replay_due text (Fault fault) = model_fault_due text fault
replay_due text (Unread unread) = on_err (denial_line 1 unread.line (codes "unexpected line")) 4
replay_due text (Replayed judged) = judged_due judged
