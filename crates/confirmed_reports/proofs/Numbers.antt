-- The sizes and the numbers in what `check` prints are not larger than a printed report may have them.
use Rattle.std.proofs.Common.{◌≡◌, ℕ, ◌+◌, ◌-◌, ◌<◌, ◌≤◌, ◌^◌, List, [], ◌∷◌, length, map, get_or, sum, All}
use Rattle.std.proofs.Common.{Option, Some, None, false, refl, sym, ap, ◌∙◌, subst, arith}
use Rattle.std.proofs.lemmas.List.{get_or_append_left, get_or-append-add, get_or-map}
use Rattle.std.proofs.lemmas.List.Sums.{get_or-le-sum_by}
use Rattle.base.proofs.Lists.{all_both}
use Rattle.fol_sig.specs.Tables.{Tables, relation_at}
use Rattle.fol_sig.specs.Symbols.{FitsStructure, symbols}
use Rattle.rml_command.specs.Models.{ModelTree, IsNamed}
use Rattle.rml_command.specs.Goals.{stage_paths, group_goals}
use Rattle.rml_command.specs.declared.goal.About.{About}
use Rattle.rml_command.specs.declared.goal.Goal.{Goal}
use Rattle.rml_wp.specs.Preconditions.{goal_passes_limit}
use Rattle.rml_report.specs.ReportText.{answer_text, report_text}
use Rattle.rml_report.specs.Reports.{head_of}
use Rattle.rml_report.specs.declared.least.Bound.{Bound}
use Rattle.rml_report.specs.declared.least.Bound.TheVariants as at
use Rattle.rml_report.specs.declared.least.Least.{Least}
use Rattle.rml_report.specs.declared.least.Least.TheVariants as least
use Rattle.rml_report.specs.declared.report.Answer.{Answer}
use Rattle.rml_report.specs.declared.report.Answer.TheVariants as reported
use Rattle.rml_report.specs.declared.report.Group.{Group}
use Rattle.rml_report.specs.declared.report.Report.{Report}
use Rattle.printed_report.specs.Executions.{IsSize}
use Rattle.printed_report.specs.Lines.{IsBound, IsLeast}
use Rattle.report_read.specs.Printing.{CanPrint}
use Rattle.limits.specs.Ceilings.{Ceilings}
use Rattle.obligation_decide.specs.GoalPassing.{refuting_sentence}
use Rattle.rml_wp.specs.Added.{refuting_where}
use Rattle.lean_decide.specs.declared.settling.Counted.TheVariants.{Whole}
use Rattle.lean_decide.specs.Settled.{FirstPassed}
use Rattle.cti_minimise.specs.Bounding.{bounds_on}
use Rattle.cti_minimise.specs.Extents.{extent, true_tuples, bound_place, HasBound}
use Rattle.cti_minimise.specs.Minimal.{numbers_up_to}
use Rattle.cti_minimise.specs.Minimal as minimal
use Rattle.verdicts.specs.Answers.{
  Failure,
  GoalAnswer,
  safe,
  failing,
  left_open,
  AreAnswers,
  first_failing,
  open_or_holds,
  fails_or,
  printed,
  IsGroupNow,
  IsReport,
}
use Rattle.confirmed_reports.specs.Confirmed.{HasNumbers}
use Rattle.confirmed_reports.proofs.Causes.{axioms_told, open_counted, open_cause, no_formula}
use Rattle.confirmed_reports.proofs.TextLengths.{tuples_shown, answers_long}
use Rattle.rml_wp.specs.declared.premises.Premises.TheVariants.{All as AllAxioms}
use Rattle.obligation_decide.specs.GoalDecisions.{IsFailing}

-- each relation is true of so few tuples that their number has 64 bits
abbrev HasFewTuples : Tables → Type 0
HasFewTuples s = (r : ℕ) → r < length s.relations → true_tuples s.sizes (relation_at s r) ≤ 18446744073709551615

module _ (limits : Ceilings) (terms : limits.terms ≤ 100000) (few : limits.conflicts ≤ 100000000) (m : ModelTree)
    (named : IsNamed m) where
  are_sizes : (s : Tables) → sum s.sizes ≤ limits.terms → All IsSize s.sizes
  are_sizes s small k d lt = let one = get_or-le-sum_by (λ n. n) s.sizes k d lt in omega (arith, one, small, terms)

  is_bound : (s : Tables) → FitsStructure (symbols m.signature) s → sum s.sizes ≤ limits.terms → HasFewTuples s
      → (bound : Bound) (size : ℕ) → HasBound m.signature bound
      → size < get_or (extent s) (bound_place m.signature bound) 0 → IsBound m bound size
  is_bound s fits small tuples (at.Sort k) size has below =
      let sorts = fits.sorts in
      let names = named.sorts in
      let lt : k.0 < length s.sizes = omega (arith, has, sorts) in
      let there = get_or_append_left s.sizes (map (true_tuples s.sizes) s.relations) 0 k.0 lt in
      let one = get_or-le-sum_by (λ n. n) s.sizes k.0 0 lt in
      (omega (arith, has, names), omega (arith, below, there, one, small, terms))
  is_bound s fits small tuples (at.Rel r) size has below =
      let sorts = fits.sorts in
      let relations = fits.relations in
      let names = named.relations in
      let lt : r.0 < length s.relations = omega (arith, has, relations) in
      let place : m.signature.sorts + r.0 ≡ length s.sizes + r.0 = omega (arith, sorts) in
      let there : get_or (extent s) (m.signature.sorts + r.0) 0 ≡ true_tuples s.sizes (relation_at s r.0) =
      ap (λ i. get_or (extent s) i 0) place
      ∙ get_or-append-add s.sizes (map (true_tuples s.sizes) s.relations) r.0 0
      ∙ get_or-map (true_tuples s.sizes) s.relations r.0 (record { sorts = []; cells = [] }) 0 lt in
      let most = tuples r.0 lt in
      (omega (arith, has, names), omega (arith, below, there, most))

  is_least : (goal : Goal) (s : Tables) → goal_passes_limit AllAxioms m goal ≡ false → FitsStructure (symbols m.signature) s
      → sum s.sizes ≤ limits.terms → HasFewTuples s → (l : Least) → minimal.IsLeast limits m goal s l → IsLeast m l
  is_least goal s within fits small tuples least.Yes h = tt
  is_least goal s within fits small tuples (least.Stopped bound size c) h = (
    is_bound s fits small tuples bound size h.0 h.1.below,
    open_counted limits few m goal
        (refuting_where AllAxioms m m.conjectures
        (bounds_on m.signature (numbers_up_to s (bound_place m.signature bound) size)) goal)
        c within h.1.left_open,
  )

  -- the goal that a failure is of
  record Failed (f : Failure) : Type 0 where
    goal : Goal
    passes : FirstPassed Whole limits m goal None
    fails : IsFailing limits m m.conjectures goal f.shown
    least : minimal.IsLeast limits m goal f.shown.structure f.least

  failed : (gs : List Goal) (answers : List GoalAnswer) (f : Failure) → AreAnswers Whole limits m gs answers
      → first_failing answers ≡ Some f → Failed f
  failed [] [] f right e = absurd (cc e)
  failed [] (a ∷ more) f right e = absurd right
  failed (g ∷ gs) [] f right e = absurd right
  failed (g ∷ gs) (safe ∷ more) f right e = failed gs more f right.1 e
  failed (g ∷ gs) (failing seen ∷ more) f right e =
      let same : seen ≡ f = cc e in
      subst (λ (x : Failure). Failed x) same
      (record { goal = g; passes = right.0.0; fails = right.0.1; least = right.0.2 })
  failed (g ∷ gs) (left_open c ∷ more) f right e = failed gs more f right.1 e

  open_told : (gs : List Goal) (answers : List GoalAnswer) → AreAnswers Whole limits m gs answers
      → CanPrint m (open_or_holds gs answers)
  open_told [] answers right = tt
  open_told (g ∷ gs) [] right = tt
  open_told (g ∷ gs) (safe ∷ more) right = open_told gs more right.1
  open_told (g ∷ gs) (failing f ∷ more) right = tt
  open_told (g ∷ gs) (left_open c ∷ more) right = open_cause limits few m g (refuting_sentence m g) c right.0

  module _ (about : About) where
    -- the text of an answer is short
    abbrev IsShort : Answer → Type 0
    IsShort a = length (answer_text m about a) < 2 ^ 63

    failure_told : (paths : ℕ) (f : Failure) → Failed f → IsShort (reported.Fails paths f.least f.shown)
        → CanPrint m (reported.Fails paths f.least f.shown)
    failure_told paths f it short =
        let s = f.shown.structure in
        let tuples : HasFewTuples s = λ r lt.
        let all = tuples_shown m about paths f.least f.shown r lt in omega (arith, all, short) in (
          are_sizes s it.fails.few,
          is_least it.goal s (no_formula limits few m it.goal (refuting_sentence m it.goal) it.passes)
              it.fails.refutes.structure it.fails.few tuples f.least it.least,
        )

    chosen_told : (paths : ℕ) (o : Option Failure) (b : Answer) → ((f : Failure) → o ≡ Some f → Failed f)
        → CanPrint m b → IsShort (fails_or paths o b) → CanPrint m (fails_or paths o b)
    chosen_told paths None b failing_is other short = other
    chosen_told paths (Some f) b failing_is other short = failure_told paths f (failing_is f refl) short

    printed_told : (paths : ℕ) (gs : List Goal) (answers : List GoalAnswer) → AreAnswers Whole limits m gs answers
        → IsShort (printed paths gs answers) → CanPrint m (printed paths gs answers)
    printed_told paths gs answers right short =
        chosen_told paths (first_failing answers) (open_or_holds gs answers) (λ f e. failed gs answers f right e)
        (open_told gs answers right) short

  group_told : (g : Group) → IsGroupNow Whole limits m g → length (answer_text m g.about g.answer) ≤ 2 ^ 63 - 1
      → CanPrint m g.answer
  group_told g h le =
      let short : IsShort g.about g.answer = omega (arith, le) in
      let paths = length (stage_paths m (head_of g).stage) in
      let told = printed_told g.about paths (group_goals m (head_of g)) h.answers h.right in
      subst (λ (a : Answer). CanPrint m a) (sym h.is)
      (told (subst (λ (a : Answer). IsShort g.about a) h.is short))

  pub has_numbers : (r : Report) → IsReport Whole limits m r → length (report_text m r) < 2 ^ 63 → HasNumbers m r
  has_numbers r h short = record {
    axioms = axioms_told limits few m r.axioms h.axioms;
    groups = all_both (IsGroupNow Whole limits m)
        (λ (g : Group). length (answer_text m g.about g.answer) ≤ 2 ^ 63 - 1)
        (λ (g : Group). CanPrint m g.answer) group_told r.groups h.answers
        (answers_long m r (2 ^ 63 - 1) (omega (arith, short)));
  }
