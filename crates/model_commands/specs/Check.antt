-- `check FILE`: whether the model of the file is inductive.
use Rattle.std.specs.Prelude.{◌≡◌, ℕ, List}
use Rattle.rml_command.specs.Models.{ModelTree}
use Rattle.rml_command.specs.Runs.{Safe}
use Rattle.rml_report.specs.Reports.{Reports}
use Rattle.rml_report.specs.ReportText.{report_text}
use Rattle.rml_report.specs.declared.report.Report.{Report}
use Rattle.rml_report.specs.declared.report.Verdict.{Verdict}
use Rattle.rml_report.specs.declared.report.Verdict.TheVariants as verdict
use Rattle.limits.specs.Ceilings.{Ceilings}
use Rattle.lean_decide.specs.declared.settling.Counted.{Counted}
use Rattle.verdicts.specs.Answers.{IsReport}
use Rattle.commands.specs.Due.{Due}
use Rattle.command_parts.specs.ModelTexts.{IsTheModel, IsTheFault}
use Rattle.command_parts.specs.Saying.{on_out}
use Rattle.command_parts.specs.Faults.{model_fault_due}
use Rattle.model_commands.specs.declared.check.CheckAnswer.{CheckAnswer}
use Rattle.model_commands.specs.declared.check.CheckAnswer.TheVariants.{Checked, Fault}

-- The report has all groups of the model, and each of its lines says what is so. Where it says `inductive`, no run of
-- the model aborts or breaks a conjecture. It is made of right answers to all goals under the limits, on the counts of
-- whole sentences or of lean ones: a group that fails is shown by its first failing path, and one of which no path
-- fails by its first path that was left open, if any was.
pub record IsCheckedModel (counted : Counted) (limits : Ceilings) (model : ModelTree) (report : Report) : Type 0 where
  pub reports : Reports model report
  pub safe : report.verdict ≡ verdict.Inductive → Safe model
  pub now : IsReport counted limits model report

-- the report on the text's one model, where the limits are on these counts; or the text's one fault
abbrev pub IsCheckAnswer : Counted → Ceilings → List ℕ → CheckAnswer → Type 0
IsCheckAnswer counted limits text (Checked model report) =
    IsTheModel text model × IsCheckedModel counted limits model report
IsCheckAnswer counted limits text (Fault fault) = IsTheFault text fault

-- 0 where the model is inductive, 1 where it is not, else 3
abbrev pub verdict_status : Verdict → ℕ
verdict_status verdict.Inductive = 0
verdict_status verdict.NotInductive = 1
verdict_status verdict.Undecided = 3

-- the text of the report, with the status of its verdict; or the line of the fault
abbrev pub check_due : List ℕ → CheckAnswer → Due
check_due text (Checked model report) = on_out (report_text model report) (verdict_status report.verdict)
check_due text (Fault fault) = model_fault_due text fault
