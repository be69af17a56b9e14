-- What is printed of a right report is confirmed.
use Rattle.std.specs.Prelude.{◌≡◌, ℕ, ◌+◌, ◌<◌, ◌^◌, List, [], ◌∷◌, length}
use Rattle.std.specs.List.{AllByRecursion}
use Rattle.rml_command.specs.Models.{ModelTree}
use Rattle.rml_command.specs.Fragment.{IsChecked}
use Rattle.rml_report.specs.ReportText.{report_text}
use Rattle.rml_report.specs.Reports.{Reports}
use Rattle.rml_report.specs.declared.report.Answer.{Answer}
use Rattle.rml_report.specs.declared.report.Answer.TheVariants as answer
use Rattle.rml_report.specs.declared.report.Group.{Group}
use Rattle.rml_report.specs.declared.report.Report.{Report}
use Rattle.printed_report.specs.Lines.{IsAxioms}
use Rattle.report_read.specs.Printing.{CanPrint}
use Rattle.report_replay.specs.declared.judged.Judged.TheVariants.{Confirmed}
use Rattle.command_line.specs.Asking.{IsInRange}
use Rattle.command_line.specs.declared.request.Asked.{Asked}
use Rattle.command_parts.specs.Limits.{ceilings_of}
use Rattle.command_parts.specs.ModelTexts.{IsTheModel}
use Rattle.model_commands.specs.Check.{IsCheckAnswer}
use Rattle.model_commands.specs.declared.check.CheckAnswer.TheVariants.{Checked}
use Rattle.replay_command.specs.Replay.{IsReplayAnswer}
use Rattle.replay_command.specs.declared.replay.ReplayAnswer.{ReplayAnswer}
use Rattle.replay_command.specs.declared.replay.ReplayAnswer.TheVariants.{Replayed}
use Rattle.lean_decide.specs.declared.settling.Counted.TheVariants.{Whole}

-- one for a group that fails
abbrev pub fails_count : Answer → ℕ
fails_count answer.Holds = 0
fails_count (answer.Fails paths least shown) = 1
fails_count (answer.Undecided path cause) = 0

-- how many groups fail
abbrev pub failing_groups : List Group → ℕ
failing_groups [] = 0
failing_groups (g ∷ gs) = fails_count g.answer + failing_groups gs

-- sizes are at most 100,000, and numbers have 64 bits
pub record HasNumbers (m : ModelTree) (r : Report) : Type 0 where
  pub axioms : IsAxioms r.axioms
  pub groups : AllByRecursion (λ (g : Group). CanPrint m g.answer) r.groups

-- Of the text that a right report of the text's model has, whatever is answered is that it is confirmed, with as many
-- executions as groups fail.
abbrev pub ReportsAreConfirmed : Type 0
ReportsAreConfirmed = (text : List ℕ) (m : ModelTree) (r : Report) (a : ReplayAnswer) → IsTheModel text m → IsChecked m
    → Reports m r → HasNumbers m r → length (report_text m r) < 2 ^ 63 → IsReplayAnswer text (report_text m r) a
    → a ≡ Replayed (Confirmed (failing_groups r.groups))

-- So it is of the text of each report that `check` answers under limits that may be asked for: its sizes are no larger
-- than these allow, and its numbers have 64 bits.
abbrev pub CheckedIsConfirmed : Type 0
CheckedIsConfirmed = (asked : Asked) (text : List ℕ) (m : ModelTree) (r : Report) (a : ReplayAnswer) → IsInRange asked
    → IsCheckAnswer Whole (ceilings_of asked) text (Checked m r) → IsChecked m → length (report_text m r) < 2 ^ 63
    → IsReplayAnswer text (report_text m r) a → a ≡ Replayed (Confirmed (failing_groups r.groups))
