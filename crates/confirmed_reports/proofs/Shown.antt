-- What a right report shows of a group is what is printed of it.
use Rattle.std.proofs.Common.{◌≡◌, ℕ, List, Option, Some, None, refl, sym, ap, ◌∙◌, subst}
use Rattle.fol_sig.specs.Tables.{Tables}
use Rattle.rml_command.specs.Outcomes.{Outcome, follow_path}
use Rattle.rml_command.specs.Models.{ModelTree}
use Rattle.rml_command.specs.Fragment.{IsChecked}
use Rattle.rml_command.specs.Goals.{FailsGoal, IsCounterexample}
use Rattle.rml_command.specs.declared.goal.About.{About}
use Rattle.rml_command.specs.declared.goal.About.TheVariants as about
use Rattle.rml_command.specs.declared.goal.Goal.{Goal}
use Rattle.rml_exec.specs.declared.trace.Counterexample.{Counterexample}
use Rattle.rml_report.specs.ReportText.{followed, outcome_of}
use Rattle.rml_report.specs.Reports.{head_of, IsAnswer, IsRight}
use Rattle.rml_report.specs.declared.report.Answer.{Answer}
use Rattle.rml_report.specs.declared.report.Answer.TheVariants as reported
use Rattle.rml_report.specs.declared.report.Group.{Group}
use Rattle.report_read.specs.Printing.{end_of, printed_answer, printed_shown, PrintedIsShown}
use Rattle.report_replay.specs.Laws.{HasSameTables, EndsAs, Shows}

module _ (m : ModelTree) where
  same_tables : (t : Tables) → HasSameTables m t t
  same_tables t = record { relations = λ r lt xs range. refl; functions = λ f lt xs range. refl }

  -- the end that is printed is that of the path
  ends : (shown : Counterexample) (a : About) (values : List ℕ) (f : Option Outcome) → outcome_of m shown ≡ f
      → FailsGoal m a values f → EndsAs m shown (end_of a (outcome_of m shown))
  ends shown about.Abort values f e h = e ∙ h.0
  ends shown (about.Conjecture k) values f e h =
      let here = e ∙ h.3 in
      subst (λ (o : Option Outcome). EndsAs m shown (end_of (about.Conjecture k) o)) (sym here)
      (h.1, here, same_tables h.1)

  -- what is printed ends where the path ends
  as_printed : (shown : Counterexample) (t : Option Tables) → outcome_of m (printed_shown m shown) ≡ outcome_of m shown
      → EndsAs m shown t → EndsAs m (printed_shown m shown) t
  as_printed shown None same h = same ∙ h
  as_printed shown (Some t) same h = (h.0, same ∙ h.1, h.2)

  outcome : (shown : Counterexample)
      → (c : IsCounterexample m m.conjectures shown.goal shown.structure shown.trace.havoc shown.values)
      → outcome_of m shown ≡ follow_path m.axioms c.path shown.trace.havoc shown.structure
  outcome shown c = ap (λ p. followed m p shown) c.is_path

  module _ (alike : PrintedIsShown) (ok : IsChecked m) where
    answer_shows : (g : Group) (x : Answer) → IsAnswer m (head_of g) x → Shows m (printed_answer m g.about x)
    answer_shows g reported.Holds h = tt
    answer_shows g (reported.Fails paths least shown) h =
        let c = h.0.refutation.refutes in
        let printed = alike m shown ok h.0.refutation in
        let same : shown.goal.about ≡ g.about = ap (λ (goal : Goal). goal.about) h.0.goal in
        record {
          refutes = printed.refutes;
          ends = as_printed shown (end_of g.about (outcome_of m shown)) printed.ends
              (subst (λ (a : About). EndsAs m shown (end_of a (outcome_of m shown))) same
              (ends shown shown.goal.about shown.values
              (follow_path m.axioms c.path shown.trace.havoc shown.structure) (outcome shown c) c.fails));
        }
    answer_shows g (reported.Undecided path cause) h = tt

    pub shows : (g : Group) → IsRight m g → Shows m (printed_answer m g.about g.answer)
    shows g right = answer_shows g g.answer right
