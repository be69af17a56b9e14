-- The text of a right report is confirmed.
use Rattle.std.proofs.Common.{◌≡◌, ℕ, ◌<◌, ◌^◌, List, length, sym, ap, ◌∙◌, subst, arith}
use Rattle.rml_command.specs.Models.{ModelTree}
use Rattle.rml_command.specs.Fragment.{IsChecked}
use Rattle.rml_report.specs.ReportText.{report_text}
use Rattle.rml_report.specs.Reports.{Reports}
use Rattle.rml_report.specs.declared.report.Report.{Report}
use Rattle.line_scan.specs.Lines.{lines_of}
use Rattle.line_scan.specs.Laws.{LinesAreCut}
use Rattle.printed_report.specs.PrintedReports.{IsPrintedReport, IsRead}
use Rattle.report_read.specs.Printing.{printed, ReportsArePrinted, PrintedIsShown}
use Rattle.report_replay.specs.Judgements.{judgement}
use Rattle.report_replay.specs.Laws.{IsConfirmed, RightIsConfirmed}
use Rattle.report_replay.specs.declared.judged.Judged.TheVariants.{Confirmed}
use Rattle.command_parts.specs.ModelTexts.{IsTheModel}
use Rattle.model_names.specs.ModelNames.{NamesAreWords}
use Rattle.replay_command.specs.Replay.{IsFound}
use Rattle.replay_command.specs.declared.replay.ReplayAnswer.{ReplayAnswer}
use Rattle.replay_command.specs.declared.replay.ReplayAnswer.TheVariants.{Fault, Unread, Replayed}
use Rattle.confirmed_reports.specs.Confirmed.{failing_groups, HasNumbers, ReportsAreConfirmed}
use Rattle.confirmed_reports.proofs.Plain.{plain_names}
use Rattle.confirmed_reports.proofs.Told.{counted, judged, all_shown}

-- what is printed of a right report is right
is_confirmed : PrintedIsShown → (m : ModelTree) (r : Report) → IsChecked m → Reports m r
    → IsConfirmed m (printed m r) (failing_groups r.groups)
is_confirmed alike m r checked reports = record {
  shows = all_shown m alike checked 2 r.groups reports.right;
  verdict = reports.verdict ∙ judged m 2 r.groups;
  count = sym (counted m 2 r.groups);
}

module _ (names : NamesAreWords) (rendered : ReportsArePrinted) (alike : PrintedIsShown) (confirms : RightIsConfirmed)
    (cut : LinesAreCut) where
  is_printed : (text : List ℕ) (m : ModelTree) (r : Report) → IsTheModel text m → IsChecked m → Reports m r
      → HasNumbers m r → IsPrintedReport m (report_text m r) (printed m r)
  is_printed text m r the checked reports numbers =
      rendered m r checked reports
      (record {
        names = plain_names m.names (names text m the.is_model);
        axioms = numbers.axioms;
        groups = numbers.groups;
      })

  found : (m : ModelTree) (r : Report) (a : ReplayAnswer) → IsChecked m → Reports m r
      → IsPrintedReport m (report_text m r) (printed m r) → length (report_text m r) < 2 ^ 63
      → IsFound m (report_text m r) a → a ≡ Replayed (Confirmed (failing_groups r.groups))
  found m r (Fault fault) checked reports is short h = absurd h
  found m r (Unread unread) checked reports is short h = absurd (h.none (printed m r) is)
  found m r (Replayed j) checked reports is short h =
      let few = cut.few (report_text m r) in
      let read : IsRead m (printed m r) = (lines_of (report_text m r), is, omega (arith, few, short)) in
      let same = h.only (printed m r) is in
      ap Replayed (h.is ∙ ap (judgement m) same
      ∙ confirms m (printed m r) (failing_groups r.groups) read (is_confirmed alike m r checked reports))

  pub are_confirmed : ReportsAreConfirmed
  are_confirmed text m r (Fault fault) the checked reports numbers short h =
      absurd (the.no_fault fault h.is_fault)
  are_confirmed text m r (Unread unread) the checked reports numbers short h =
      let same : h.0 ≡ m = the.only_model h.0 h.1.is_model in
      found m r (Unread unread) checked reports (is_printed text m r the checked reports numbers) short
      (subst (λ (x : ModelTree). IsFound x (report_text m r) (Unread unread)) same h.2)
  are_confirmed text m r (Replayed j) the checked reports numbers short h =
      let same : h.0 ≡ m = the.only_model h.0 h.1.is_model in
      found m r (Replayed j) checked reports (is_printed text m r the checked reports numbers) short
      (subst (λ (x : ModelTree). IsFound x (report_text m r) (Replayed j)) same h.2)
