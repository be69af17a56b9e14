-- What a printed report says can be judged.
use Rattle.std.proofs.Common.{◌≡◌, ℕ, ◌+◌, ◌^◌, ◌<◌, ◌≤◌, List, [], ◌∷◌, ◌++◌, length, sym, ap, ◌∙◌, subst, arith}
use Rattle.std.proofs.Common.{length-append, Some}
use Rattle.std.specs.Prelude.{slice_get}
use Rattle.std.specs.List.{AllByRecursion}
use Rattle.fol_sig.specs.Tables.{Tables, InRange}
use Rattle.fol_formula.specs.Syntax.{FormTree}
use Rattle.rml_command.specs.Models.{ModelTree}
use Rattle.rml_command.specs.Goals.{groups_of, leading_sorts}
use Rattle.rml_command.specs.declared.goal.Head.{Head}
use Rattle.rml_command.specs.declared.goal.Stage.{Stage}
use Rattle.rml_command.specs.declared.goal.About.{About}
use Rattle.rml_command.specs.declared.goal.About.TheVariants as about
use Rattle.rml_report.specs.ReportText.{verdict_text}
use Rattle.printed_report.specs.Executions.{IsExecution, HasEnd, HasSizes}
use Rattle.printed_report.specs.PrintedReports.{Says, IsGroup, AreGroups, IsPrinted, IsRead}
use Rattle.printed_report.specs.declared.printed.Printed.{Printed}
use Rattle.printed_report.specs.declared.printed.PrintedGroup.{PrintedGroup}
use Rattle.printed_report.specs.declared.printed.PrintedAnswer.{PrintedAnswer}
use Rattle.printed_report.specs.declared.printed.PrintedAnswer.TheVariants as answer
use Rattle.report_replay.specs.Judging.{CanFollow, CanReplay}

same_group : (group : Head) (g : PrintedGroup) → g.stage ≡ group.stage → g.about ≡ group.about
    → group ≡ record { stage = g.stage; about = g.about }
same_group group g s b =
    ap (λ (x : Stage). record { stage = x; about = group.about }) (sym s)
    ∙ ap (λ (y : About). record { stage = g.stage; about = y }) (sym b)

can_follow : (m : ModelTree) (group : Head) (g : PrintedGroup) (a : PrintedAnswer) (lines : List (List ℕ))
    → g.stage ≡ group.stage → g.about ≡ group.about → Says m group a lines → CanFollow m g a
can_follow m group g answer.Holds lines s b says = tt
can_follow m group g (answer.Fails paths shown after) lines s b says =
    let same : group ≡ record { stage = g.stage; about = g.about } = same_group group g s b in
    subst (λ (x : Head). IsExecution m x paths shown after) same says.1.execution
can_follow m group g answer.Undecided lines s b says = tt

can_replay : (m : ModelTree) (n : ℕ) (group : Head) (g : PrintedGroup) (lines : List (List ℕ))
    → IsGroup m n group g lines → n ≤ 2 ^ 63 + 1 → CanReplay m g
can_replay m n group g lines is le = record {
  line = let e = is.line in omega (arith, e);
  answer = can_follow m group g g.answer lines is.stage is.about is.answer;
}

can_replay_all : (m : ModelTree) (n : ℕ) (groups : List Head) (gs : List PrintedGroup) (lines : List (List ℕ))
    → AreGroups m n groups gs lines → n + length lines ≤ 2 ^ 63 + 1 → AllByRecursion (CanReplay m) gs
can_replay_all m n [] [] lines are le = tt
can_replay_all m n [] (g ∷ gs) lines are le = absurd are
can_replay_all m n (group ∷ groups) [] lines are le = absurd are
can_replay_all m n (group ∷ groups) (g ∷ gs) lines are le =
    let cut : length lines ≡ length (are.0 ++ are.1) = ap (length {A = List ℕ}) are.4 in
    let sum : length (are.0 ++ are.1) ≡ length are.0 + length are.1 = length-append are.0 are.1 in (
      can_replay m n group g are.0 are.2 (omega arith),
      can_replay_all m (n + length are.0) groups gs are.1 are.3 (omega (arith, cut, sum)),
    )

pub can_judge : (m : ModelTree) (p : Printed) → IsRead m p → AllByRecursion (CanReplay m) p.groups
can_judge m p read =
    let printed : IsPrinted m p read.0 = read.1 in
    let middle : List (List ℕ) = printed.middle in
    let few : length read.0 < 2 ^ 63 = read.2 in
    let cut : length read.0 ≡ length (printed.axioms ∷ (printed.middle ++ verdict_text p.verdict ∷ [])) =
    ap (length {A = List ℕ}) printed.text in
    let sum : length (printed.middle ++ verdict_text p.verdict ∷ []) ≡ length printed.middle + 1 =
    length-append printed.middle (verdict_text p.verdict ∷ []) in
    can_replay_all m 2 (groups_of m) p.groups printed.middle printed.groups (omega (arith, cut, sum, few))

-- what stands behind `after`
pub record HasAfter (m : ModelTree) (s t : Tables) (k : ℕ) (values : List ℕ) : Type 0 where
  pub conjecture : FormTree
  pub is : slice_get m.conjectures k ≡ Some conjecture
  pub alike : HasSizes m s t
  pub in_range : InRange s.sizes (leading_sorts conjecture) values

pub has_after : (m : ModelTree) (s t : Tables) (k : ℕ) (values : List ℕ)
    → HasEnd m s (about.Conjecture k) values (Some t) → HasAfter m s t k values
has_after m s t k values h =
    let e : h.1 ≡ t = sym (cc h.3) in
    record { conjecture = h.0; is = h.2; alike = subst (HasSizes m s) e h.4; in_range = h.5 }
