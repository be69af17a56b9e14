-- What a report says of a model. When a question may be left open, and for which cause, is for the layers that decide
-- it.
use Rattle.std.specs.Prelude.{◌≡◌, ℕ, ◌<◌, Bool, true, false, if◌then◌else◌, List, length, map}
use Rattle.std.specs.List.{AllByRecursion, list_all, list_any}
use Rattle.fol_sig.specs.Tables.{Tables}
use Rattle.fol_sig.specs.Symbols.{FitsStructure, symbols}
use Rattle.fol_formula.specs.Sentences.{satisfies}
use Rattle.rml_command.specs.Models.{ModelTree}
use Rattle.rml_command.specs.Goals.{stage_paths, groups_of, IsGoal, IsCounterexample, HasNone, Holds}
use Rattle.rml_command.specs.declared.goal.Head.{Head}
use Rattle.rml_command.specs.declared.goal.Goal.{Goal}
use Rattle.rml_exec.specs.declared.trace.Counterexample.{Counterexample}
use Rattle.rml_report.specs.declared.report.Axioms.{Axioms}
use Rattle.rml_report.specs.declared.report.Axioms.TheVariants as axioms
use Rattle.rml_report.specs.declared.report.Verdict.{Verdict}
use Rattle.rml_report.specs.declared.report.Verdict.TheVariants as verdict
use Rattle.rml_report.specs.declared.report.Answer.{Answer}
use Rattle.rml_report.specs.declared.report.Answer.TheVariants as answer
use Rattle.rml_report.specs.declared.report.Group.{Group}
use Rattle.rml_report.specs.declared.report.Report.{Report}

-- the group of goals that a line is about
abbrev pub head_of : Group → Head
head_of g = record { stage = g.stage; about = g.about }

-- the goal of a group at the path of this number
abbrev pub goal_at : Head → ℕ → Goal
goal_at group path = record { stage = group.stage; path = path; about = group.about }

-- An execution along the path of a goal of the model, from a structure of its signature.
pub record IsExecution (m : ModelTree) (shown : Counterexample) : Type 0 where
  pub goal : IsGoal m shown.goal
  pub structure : FitsStructure (symbols m.signature) shown.structure

-- The execution is a counterexample of its goal.
pub record IsRefutation (m : ModelTree) (shown : Counterexample) : Type 0 where
  pub goal : IsGoal m shown.goal
  pub refutes : IsCounterexample m m.conjectures shown.goal shown.structure shown.trace.havoc shown.values

-- It is shown of a group: its goal is the group's, at its path.
pub record IsShown (m : ModelTree) (group : Head) (shown : Counterexample) : Type 0 where
  pub goal : shown.goal ≡ goal_at group shown.trace.path
  pub refutation : IsRefutation m shown

-- A group that is left open: this path is one of its goals, and no earlier one has a counterexample.
pub record IsLeftOpen (m : ModelTree) (group : Head) (path : ℕ) : Type 0 where
  pub is_goal : IsGoal m (goal_at group path)
  pub earlier : (n : ℕ) → n < path → IsGoal m (goal_at group n) → HasNone m m.conjectures (goal_at group n)

-- What an answer says of its group. `holds`: no goal of it has a counterexample. `fails`: the shown execution is a
-- counterexample, and its block has so many paths. `undecided`: as above.
abbrev pub IsAnswer : ModelTree → Head → Answer → Type 0
IsAnswer m group answer.Holds = Holds m group
IsAnswer m group (answer.Fails paths least shown) = IsShown m group shown × (paths ≡ length (stage_paths m group.stage))
IsAnswer m group (answer.Undecided path cause) = IsLeftOpen m group path

-- what is answered of the group is so
abbrev pub IsRight : ModelTree → Group → Type 0
IsRight m g = IsAnswer m (head_of g) g.answer

abbrev pub says_holds : Answer → Bool
says_holds answer.Holds = true
says_holds (answer.Fails paths least shown) = false
says_holds (answer.Undecided path cause) = false

abbrev pub says_fails : Answer → Bool
says_fails answer.Holds = false
says_fails (answer.Fails paths least shown) = true
says_fails (answer.Undecided path cause) = false

-- Inductive if all groups hold, not inductive if one fails, else undecided.
abbrev pub verdict_of : List Group → Verdict
verdict_of groups =
    if list_all (λ g. says_holds g.answer) groups then verdict.Inductive
    else (if list_any (λ g. says_fails g.answer) groups then verdict.NotInductive else verdict.Undecided)

-- a structure of the model satisfies its axioms
pub record SatisfiesAxioms (m : ModelTree) (s : Tables) : Type 0 where
  pub structure : FitsStructure (symbols m.signature) s
  pub lawful : satisfies s m.axioms ≡ true

-- `consistent`: some structure satisfies the axioms. `inconsistent`: none does.
abbrev pub AxiomsAre : ModelTree → Axioms → Type 0
AxiomsAre m axioms.Consistent = (s : Tables) × SatisfiesAxioms m s
AxiomsAre m axioms.Inconsistent = (s : Tables) → SatisfiesAxioms m s → ⊥
AxiomsAre m (axioms.Undecided cause) = Unit {0}

-- A report with all groups of the model, in order and once each, whose lines are right.
pub record Reports (m : ModelTree) (report : Report) : Type 0 where
  pub groups : map head_of report.groups ≡ groups_of m
  pub right : AllByRecursion (IsRight m) report.groups
  pub verdict : report.verdict ≡ verdict_of report.groups
  pub axioms : AxiomsAre m report.axioms

-- what is shown is a counterexample of its goal
abbrev pub ShowsRefutation : ModelTree → Answer → Type 0
ShowsRefutation m answer.Holds = Unit {0}
ShowsRefutation m (answer.Fails paths least shown) = IsRefutation m shown
ShowsRefutation m (answer.Undecided path cause) = Unit {0}

-- A report can be written out where what it shows are counterexamples.
abbrev pub CanRender : ModelTree → Group → Type 0
CanRender m g = ShowsRefutation m g.answer
