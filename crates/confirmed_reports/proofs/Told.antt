-- The verdict of a report, and how many groups fail, are those of what is printed of it.
use Rattle.std.proofs.Common.{◌≡◌, ℕ, ◌+◌, Bool, true, false, not, cond, List, [], ◌∷◌, length, refl, sym, ap}
use Rattle.std.proofs.Common.{◌∙◌, arith}
use Rattle.std.specs.Prelude.{◌&&◌, ◌||◌}
use Rattle.std.specs.List.{AllByRecursion, list_all, list_any}
use Rattle.std.proofs.lemmas.Bool.{ne_eqb}
use Rattle.rml_command.specs.Models.{ModelTree}
use Rattle.rml_command.specs.Fragment.{IsChecked}
use Rattle.rml_command.specs.declared.goal.About.{About}
use Rattle.rml_report.specs.Reports as reports
use Rattle.rml_report.specs.Reports.{IsRight}
use Rattle.rml_report.specs.declared.report.Answer.{Answer}
use Rattle.rml_report.specs.declared.report.Answer.TheVariants as reported
use Rattle.rml_report.specs.declared.report.Group.{Group}
use Rattle.rml_report.specs.declared.report.Verdict.TheVariants as verdict
use Rattle.report_read.specs.Printing.{printed_answer, printed_groups, group_lines, PrintedIsShown}
use Rattle.report_replay.specs.Judgements as replay
use Rattle.report_replay.specs.Judgements.{executions, do_all_hold, is_zero}
use Rattle.report_replay.specs.Laws.{Shows}
use Rattle.confirmed_reports.specs.Confirmed.{fails_count, failing_groups}
use Rattle.confirmed_reports.proofs.Shown.{shows}

module _ (m : ModelTree) where
  says_as : (a : About) (x : Answer) → replay.says_holds (printed_answer m a x) ≡ reports.says_holds x
  says_as a reported.Holds = refl
  says_as a (reported.Fails paths least shown) = refl
  says_as a (reported.Undecided path cause) = refl

  counts_as : (a : About) (x : Answer) → replay.fails_count (printed_answer m a x) ≡ fails_count x
  counts_as a reported.Holds = refl
  counts_as a (reported.Fails paths least shown) = refl
  counts_as a (reported.Undecided path cause) = refl

  both : (a b : Bool) → cond a b false ≡ (a && b)
  both true b = refl
  both false b = refl

  hold_as : (n : ℕ) (gs : List Group)
      → do_all_hold (printed_groups m n gs) ≡ list_all (λ g. reports.says_holds g.answer) gs
  hold_as n [] = refl
  hold_as n (g ∷ gs) =
      ap (λ t. cond t (do_all_hold (printed_groups m (n + length (group_lines m g)) gs)) false)
      (says_as g.about g.answer)
      ∙ ap (λ t. cond (reports.says_holds g.answer) t false) (hold_as (n + length (group_lines m g)) gs)
      ∙ both (reports.says_holds g.answer) (list_all (λ g. reports.says_holds g.answer) gs)

  pub counted : (n : ℕ) (gs : List Group) → executions (printed_groups m n gs) ≡ failing_groups gs
  counted n [] = refl
  counted n (g ∷ gs) =
      let a = counts_as g.about g.answer in
      let b = counted (n + length (group_lines m g)) gs in
      omega (arith, a, b)

  -- none fails exactly where the count is zero
  one : (x : Answer) (rest : ℕ) (t : Bool) → is_zero rest ≡ not t
      → is_zero (fails_count x + rest) ≡ not (reports.says_fails x || t)
  one reported.Holds rest t e = let same : 0 + rest ≡ rest = omega arith in ap is_zero same ∙ e
  one (reported.Fails paths least shown) rest t e = ne_eqb (1 + rest) 0 (λ h. absurd (omega (arith, h)))
  one (reported.Undecided path cause) rest t e = let same : 0 + rest ≡ rest = omega arith in ap is_zero same ∙ e

  none_fails : (gs : List Group) → is_zero (failing_groups gs) ≡ not (list_any (λ g. reports.says_fails g.answer) gs)
  none_fails [] = refl
  none_fails (g ∷ gs) =
      one g.answer (failing_groups gs) (list_any (λ g. reports.says_fails g.answer) gs) (none_fails gs)

  chosen : (a b : Bool) → cond a verdict.Inductive (cond b verdict.NotInductive verdict.Undecided)
      ≡ cond a verdict.Inductive (cond (not b) verdict.Undecided verdict.NotInductive)
  chosen true b = refl
  chosen false true = refl
  chosen false false = refl

  pub judged : (n : ℕ) (gs : List Group) → reports.verdict_of gs ≡ replay.verdict_of (printed_groups m n gs)
  judged n gs =
      let hold = list_all (λ (g : Group). reports.says_holds g.answer) gs in
      let fail = list_any (λ (g : Group). reports.says_fails g.answer) gs in
      chosen hold fail
      ∙ ap (λ t. cond t verdict.Inductive (cond (not fail) verdict.Undecided verdict.NotInductive)) (sym (hold_as n gs))
      ∙ ap (λ t. cond (do_all_hold (printed_groups m n gs)) verdict.Inductive
      (cond t verdict.Undecided verdict.NotInductive)) (sym (ap is_zero (counted n gs) ∙ none_fails gs))

  module _ (alike : PrintedIsShown) (ok : IsChecked m) where
    pub all_shown : (n : ℕ) (gs : List Group) → AllByRecursion (IsRight m) gs
        → AllByRecursion (λ g. Shows m g.answer) (printed_groups m n gs)
    all_shown n [] right = tt
    all_shown n (g ∷ gs) right =
        (shows m alike ok g right.0, all_shown (n + length (group_lines m g)) gs right.1)
