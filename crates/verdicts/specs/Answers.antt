-- What is answered of goals, and the report that these answers make. The limits are those of the counts of whole
-- refuting sentences, or of lean ones.
use Rattle.std.specs.Prelude.{◌≡◌, ℕ, List, [], ◌∷◌, length, map, Option, Some, None}
use Rattle.std.specs.List.{AllByRecursion}
use Rattle.rml_command.specs.Models.{ModelTree}
use Rattle.rml_command.specs.Goals.{stage_paths, groups_of, group_goals, HasNone}
use Rattle.rml_command.specs.declared.goal.Head.{Head}
use Rattle.rml_command.specs.declared.goal.Goal.{Goal}
use Rattle.rml_exec.specs.declared.trace.Counterexample.{Counterexample}
use Rattle.limits.specs.declared.cause.Cause.{Cause}
use Rattle.rml_report.specs.declared.least.Least.{Least}
use Rattle.rml_report.specs.declared.report.Answer.{Answer}
use Rattle.rml_report.specs.declared.report.Answer.TheVariants as answer
use Rattle.rml_report.specs.declared.report.Group.{Group}
use Rattle.rml_report.specs.declared.report.Report.{Report}
use Rattle.rml_report.specs.Reports.{head_of, verdict_of}
use Rattle.limits.specs.Ceilings.{Ceilings}
use Rattle.obligation_decide.specs.GoalDecisions.{AreAxiomsDecided, IsFailing}
use Rattle.lean_decide.specs.declared.settling.Counted.{Counted}
use Rattle.lean_decide.specs.Settled.{FirstPassed, IsOpen}
use Rattle.cti_minimise.specs.Minimal.{IsLeast}

-- a counterexample, and whether its sizes and numbers of true tuples are least
pub record Failure : Type 0 where
  pub shown : Counterexample
  pub least : Least

-- the answer to a goal: it has no counterexample; or this is one; or it was left open
pub data GoalAnswer : Type 0 where
  safe : GoalAnswer
  failing : Failure → GoalAnswer
  left_open : Cause → GoalAnswer

-- what the answer says is so; a goal is left open where it passes a limit, or where a log of just so many clauses as
-- the budget allows exists
abbrev pub IsGoalAnswer : Counted → Ceilings → ModelTree → Goal → GoalAnswer → Type 0
IsGoalAnswer counted limits m goal safe = FirstPassed counted limits m goal None × HasNone m m.conjectures goal
IsGoalAnswer counted limits m goal (failing f) =
    FirstPassed counted limits m goal None × IsFailing limits m m.conjectures goal f.shown
    × IsLeast limits m goal f.shown.structure f.least
IsGoalAnswer counted limits m goal (left_open c) = IsOpen counted limits m goal c

-- Right answers to goals in order, as far as the first that fails: the goals behind it are not decided.
abbrev pub AreAnswers : Counted → Ceilings → ModelTree → List Goal → List GoalAnswer → Type 0
AreAnswers counted limits m [] [] = Unit {0}
AreAnswers counted limits m [] (a ∷ more) = ⊥
AreAnswers counted limits m (goal ∷ rest) [] = ⊥
AreAnswers counted limits m (goal ∷ rest) (safe ∷ more) =
    IsGoalAnswer counted limits m goal safe × AreAnswers counted limits m rest more
AreAnswers counted limits m (goal ∷ rest) (failing f ∷ more) =
    IsGoalAnswer counted limits m goal (failing f) × (more ≡ [])
AreAnswers counted limits m (goal ∷ rest) (left_open c ∷ more) =
    IsGoalAnswer counted limits m goal (left_open c) × AreAnswers counted limits m rest more

-- that of the first goal that fails
abbrev pub first_failing : List GoalAnswer → Option Failure
first_failing [] = None
first_failing (safe ∷ more) = first_failing more
first_failing (failing f ∷ more) = Some f
first_failing (left_open c ∷ more) = first_failing more

-- the path and the cause of the first goal that is left open, else `holds`
abbrev pub open_or_holds : List Goal → List GoalAnswer → Answer
open_or_holds [] answers = answer.Holds
open_or_holds (goal ∷ rest) [] = answer.Holds
open_or_holds (goal ∷ rest) (safe ∷ more) = open_or_holds rest more
open_or_holds (goal ∷ rest) (failing f ∷ more) = answer.Holds
open_or_holds (goal ∷ rest) (left_open c ∷ more) = answer.Undecided goal.path c

-- this failure is shown of a block with so many paths; where there is none, the other answer stands
abbrev pub fails_or : ℕ → Option Failure → Answer → Answer
fails_or paths None other = other
fails_or paths (Some f) other = answer.Fails paths f.least f.shown

-- What is printed of goals of a block with so many paths: the first that fails, else the first that is left open, else
-- that they hold.
abbrev pub printed : ℕ → List Goal → List GoalAnswer → Answer
printed paths goals answers = fails_or paths (first_failing answers) (open_or_holds goals answers)

-- Right answers to these goals make this answer.
pub record IsAnswerTo (counted : Counted) (limits : Ceilings) (m : ModelTree) (paths : ℕ) (goals : List Goal)
    (a : Answer) : Type 0 where
  pub answers : List GoalAnswer
  pub right : AreAnswers counted limits m goals answers
  pub is : a ≡ printed paths goals answers

-- right answers to the goals of this group make this answer
abbrev pub IsGroupAnswer : Counted → Ceilings → ModelTree → Head → Answer → Type 0
IsGroupAnswer counted limits m group a =
    IsAnswerTo counted limits m (length (stage_paths m group.stage)) (group_goals m group) a

-- so it is of the answer that stands in the group
abbrev pub IsGroupNow : Counted → Ceilings → ModelTree → Group → Type 0
IsGroupNow counted limits m g = IsGroupAnswer counted limits m (head_of g) g.answer

-- A report under limits: all groups of the model, in order and once each, each answered as above. The axioms are
-- counted whole.
pub record IsReport (counted : Counted) (limits : Ceilings) (m : ModelTree) (report : Report) : Type 0 where
  pub groups : map head_of report.groups ≡ groups_of m
  pub answers : AllByRecursion (IsGroupNow counted limits m) report.groups
  pub verdict : report.verdict ≡ verdict_of report.groups
  pub axioms : AreAxiomsDecided limits m report.axioms
