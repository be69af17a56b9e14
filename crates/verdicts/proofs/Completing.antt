-- The goals that are left complete what was answered.
use Rattle.std.proofs.Common.{◌<◌, ◌≤◌, ◌+◌, ℕ, List, [], ◌∷◌, length, get_or, drop, Option, Some, None, refl, subst}
use Rattle.std.proofs.lemmas.List.{drop_all, drop_more}
use Rattle.std.specs.List.{AllByRecursion}
use Rattle.rml_command.specs.Models.{ModelTree}
use Rattle.rml_command.specs.declared.goal.Goal.{Goal}
use Rattle.limits.specs.declared.cause.Cause.{Cause}
use Rattle.rml_report.specs.declared.report.Answer.TheVariants as answer
use Rattle.limits.specs.Ceilings.{Ceilings}
use Rattle.lean_decide.specs.declared.settling.Counted.{Counted}
use Rattle.lean_decide.specs.Settled.{IsOpen}
use Rattle.verdicts.specs.Answers.{
  Failure,
  GoalAnswer,
  safe,
  failing,
  left_open,
  IsGoalAnswer,
  AreAnswers,
  first_failing,
}
use Rattle.verdicts.specs.Answers.{open_or_holds, fails_or, IsAnswerTo}
use Rattle.verdicts.specs.Earliest.{open_or, answer_of}
use Rattle.verdicts.specs.declared.deciding.OpenGoal.{OpenGoal}
use Rattle.std.specs.Option.{option_or}

-- right answers to the goals that are left make an answer to all, with the first open goal so far
abbrev pub Completes : Counted → Ceilings → ModelTree → ℕ → List Goal → Option OpenGoal → List Goal → Type 0
Completes counted limits m paths goals earliest rest = (answers : List GoalAnswer)
    → AreAnswers counted limits m rest answers
    → IsAnswerTo counted limits m paths goals (fails_or paths (first_failing answers)
    (open_or earliest (open_or_holds rest answers)))

module _ (counted : Counted) (limits : Ceilings) (m : ModelTree) (paths : ℕ) (goals : List Goal) where
  pub at_first : Completes counted limits m paths goals None goals
  at_first answers right = record { answers = answers; right = right; is = refl }

  -- the next goal, and those behind it
  pub next : (earliest : Option OpenGoal) (i : ℕ) (d : Goal) → i < length goals
      → Completes counted limits m paths goals earliest (drop i goals)
      → Completes counted limits m paths goals earliest (get_or goals i d ∷ drop (i + 1) goals)
  next earliest i d lt whole = subst (λ (gs : List Goal). Completes counted limits m paths goals earliest gs)
      (drop_more goals i d lt) whole

  pub next_each : (P : Goal → Type 0) (i : ℕ) (d : Goal) → i < length goals → AllByRecursion P (drop i goals)
      → AllByRecursion P (drop (i + 1) goals)
  next_each P i d lt each = (subst (λ (gs : List Goal). AllByRecursion P gs) (drop_more goals i d lt) each).1

  pub behind_safe : (earliest : Option OpenGoal) (goal : Goal) (rest : List Goal)
      → Completes counted limits m paths goals earliest (goal ∷ rest)
      → IsGoalAnswer counted limits m goal safe → Completes counted limits m paths goals earliest rest
  behind_safe earliest goal rest whole is answers right = whole (safe ∷ answers) (is, right)

  pub behind_open : (earliest : Option OpenGoal) (goal : Goal) (rest : List Goal) (c : Cause)
      → Completes counted limits m paths goals earliest (goal ∷ rest)
      → IsOpen counted limits m goal c → Completes counted limits m paths goals
      (option_or earliest (Some (record { path = goal.path; cause = c }))) rest
  behind_open None goal rest c whole is answers right = whole (left_open c ∷ answers) (is, right)
  behind_open (Some first) goal rest c whole is answers right = whole (left_open c ∷ answers) (is, right)

  pub at_failing : (earliest : Option OpenGoal) (goal : Goal) (rest : List Goal) (f : Failure)
      → Completes counted limits m paths goals earliest (goal ∷ rest)
      → IsGoalAnswer counted limits m goal (failing f)
      → IsAnswerTo counted limits m paths goals (answer.Fails paths f.least f.shown)
  at_failing earliest goal rest f whole is = whole (failing f ∷ []) (is, refl)

  pub at_last : (earliest : Option OpenGoal) (i : ℕ) → length goals ≤ i
      → Completes counted limits m paths goals earliest (drop i goals)
      → IsAnswerTo counted limits m paths goals (answer_of earliest)
  at_last earliest i le whole = (subst (λ (gs : List Goal). Completes counted limits m paths goals earliest gs)
      (drop_all i goals le) whole) [] tt
