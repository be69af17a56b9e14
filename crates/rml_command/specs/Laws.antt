-- What is proved of blocks, paths, goals and runs.
use Rattle.std.specs.Prelude.{◌≡◌, ◌⊎◌, ◌↔◌, ◌<◌, ℕ, Bool, true, false, List, length, Some}
use Rattle.std.specs.List.{AllByRecursion}
use Rattle.fol_sig.specs.Tables.{Tables}
use Rattle.fol_sig.specs.Symbols.{Symbols, FitsStructure, symbols}
use Rattle.fol_sig.specs.TupleSets.{with_table}
use Rattle.fol_formula.specs.Syntax.{FormTree, TermTree}
use Rattle.rml_command.specs.Trees.{
  PrimitiveTree,
  set_rel,
  set_fun,
  havoc,
  havoc_rel,
  CommandTree,
  CommandTrees,
  seq,
  choose,
  followed_by,
}
use Rattle.fol_formula.specs.Sentences.{is_true}
use Rattle.rml_command.specs.Outcomes.{
  Outcome,
  ended,
  aborted,
  HasOutcome,
  PathHasOutcome,
  follow_path,
  set_relation,
  set_function,
  set_variable,
  range_of,
}
use Rattle.base.specs.Lists.{SomeOf, numbered}
use Rattle.rml_command.specs.Paths.{has_abort, EndsAtAbort, paths_of, havoc_count}
use Rattle.rml_command.specs.Models.{ModelTree, FitsPrimitive, FitsPath, FitsModel}
use Rattle.rml_command.specs.Fragment.{IsInFragment, IsChecked}
use Rattle.rml_command.specs.Runs.{Run, IsRun, Safe}
use Rattle.rml_command.specs.Invariants.{IsInductiveInvariant, AreTrueIn}
use Rattle.rml_command.specs.InductiveSets.{conjectures_of, IsInductive}
use Rattle.rml_command.specs.Goals.{HasAbout, groups_of, goals_of, goal_path, IsGoal, FalseUnder, Holds, HasNone}
use Rattle.rml_command.specs.declared.goal.Goal.{Goal}
use Rattle.rml_command.specs.declared.havoc.Havoc.{Havoc}

-- The outcomes of a block are those of its paths.
abbrev pub BlockHasPathOutcomes : Type 0
BlockHasPathOutcomes =
    (axioms : List FormTree) (c : CommandTree) (s : Tables) (o : Outcome)
    → HasOutcome axioms c s o ↔ SomeOf (λ p. PathHasOutcome axioms p s o) (paths_of c)

-- following the path with some elements and tuples, one entry for each havoc, has this outcome
pub record IsFollowed (axioms : List FormTree) (p : List PrimitiveTree) (s : Tables) (o : Outcome) : Type 0 where
  pub havocs : List Havoc
  pub count : length havocs ≡ havoc_count p
  pub ends : follow_path axioms p havocs s ≡ Some o

-- The outcomes of a path are those of following it with some elements and tuples.
abbrev pub PathHasFollowedOutcomes : Type 0
PathHasFollowedOutcomes =
    (axioms : List FormTree) (p : List PrimitiveTree) (s : Tables) (o : Outcome)
    → PathHasOutcome axioms p s o ↔ IsFollowed axioms p s o

-- A path aborts only where it has an abort, and ends only where it has none.
pub record PathsKeepKind : Type 0 where
  pub aborts : (axioms : List FormTree) (p : List PrimitiveTree) (s : Tables)
      → PathHasOutcome axioms p s aborted → has_abort p ≡ true
  pub ends : (axioms : List FormTree) (p : List PrimitiveTree) (s new : Tables)
      → PathHasOutcome axioms p s (ended new) → has_abort p ≡ false

-- A path of a block, and so that of a goal, has nothing behind an abort.
pub record PathsEndAtAbort : Type 0 where
  pub blocks : (c : CommandTree) → AllByRecursion EndsAtAbort (paths_of c)
  pub goals : (m : ModelTree) (goal : Goal) (p : List PrimitiveTree) → goal_path m goal ≡ Some p → EndsAtAbort p

-- An update or a havoc leads from a structure of the signature to another.
pub record UpdatesKeepSymbols : Type 0 where
  pub relation : (sig : Symbols) (s : Tables) (r : ℕ) (by : FormTree)
      → FitsPrimitive sig (set_rel r by) → FitsStructure sig s → FitsStructure sig (set_relation s r by)
  pub function : (sig : Symbols) (s : Tables) (f : ℕ) (by : TermTree)
      → FitsPrimitive sig (set_fun f by) → FitsStructure sig s → FitsStructure sig (set_function s f by)
  pub variable : (sig : Symbols) (s : Tables) (v x : ℕ)
      → FitsPrimitive sig (havoc v) → x < range_of s v → FitsStructure sig s → FitsStructure sig (set_variable s v x)
  pub table : (sig : Symbols) (s : Tables) (r : ℕ) (f : List ℕ → Bool)
      → FitsPrimitive sig (havoc_rel r) → FitsStructure sig s → FitsStructure sig (with_table s r f)

-- A sentence is false exactly where some values for its leading quantifiers make its body false.
abbrev pub FalsehoodHasValues : Type 0
FalsehoodHasValues = (s : Tables) (c : FormTree) → (is_true s c ≡ false) ↔ ((values : List ℕ) × FalseUnder s c values)

-- `C; d` aborts where C does, and has each outcome of d from each end of C
abbrev pub HasOutcomeOfBoth : List FormTree → CommandTree → CommandTree → Tables → Outcome → Type 0
HasOutcomeOfBoth axioms c d s o =
    ((o ≡ aborted) × HasOutcome axioms c s aborted)
    ⊎ ((mid : Tables) × HasOutcome axioms c s (ended mid) × HasOutcome axioms d mid o)

-- A longer list is the binary command read from the left: the list before its last member, and that member.
pub record ListsReadFromTheLeft : Type 0 where
  pub sequences : (axioms : List FormTree) (cs : CommandTrees) (d : CommandTree) (s : Tables) (o : Outcome)
      → HasOutcome axioms (seq (followed_by cs d)) s o ↔ HasOutcomeOfBoth axioms (seq cs) d s o
  pub choices : (axioms : List FormTree) (cs : CommandTrees) (d : CommandTree) (s : Tables) (o : Outcome)
      → HasOutcome axioms (choose (followed_by cs d)) s o
      ↔ (HasOutcome axioms (choose cs) s o ⊎ HasOutcome axioms d s o)

-- The goals in the ordered list are the goals of the model.
abbrev pub GoalsAreListed : Type 0
GoalsAreListed = (m : ModelTree) (goal : Goal) → SomeOf (λ g. g ≡ goal) (goals_of m) ↔ IsGoal m goal

-- Each group is of a block of the model, and of a conjecture of it if of one.
abbrev pub GroupsAreKnown : Type 0
GroupsAreKnown = (m : ModelTree) → AllByRecursion (λ h. HasAbout m h.stage h.about) (groups_of m)

-- The path of a goal has only symbols of the model's signature, and that of a checked model's goal is in the fragment.
pub record GoalPathsFit : Type 0 where
  pub symbols_fit : (m : ModelTree) (goal : Goal) (p : List PrimitiveTree)
      → FitsModel m → goal_path m goal ≡ Some p → FitsPath (symbols m.signature) p
  pub in_fragment : (m : ModelTree) (goal : Goal) (p : List PrimitiveTree)
      → IsChecked m → goal_path m goal ≡ Some p → AllByRecursion IsInFragment p

-- Where no goal of any group has a counterexample, no run aborts or breaks a conjecture.
abbrev pub InductionIsSound : Type 0
InductionIsSound = (m : ModelTree) → FitsModel m → AllByRecursion (Holds m) (groups_of m) → Safe m

-- The same for goals that are decided one by one: where the goal of each number has no counterexample, no run aborts or
-- breaks a conjecture.
abbrev pub SafeByGoals : Type 0
SafeByGoals = (m : ModelTree) → FitsModel m
    → ((n : ℕ) (goal : Goal) → numbered (goals_of m) n ≡ Some goal → HasNone m m.conjectures goal) → Safe m

-- An inductive invariant is true at each end of init and of an action of every run, whether or not something aborts.
abbrev pub InductiveInvariantsHold : Type 0
InductiveInvariantsHold = (m : ModelTree) (sentences : List FormTree) (run : Run) → FitsModel m
    → IsInductiveInvariant m sentences → IsRun m run → AreTrueIn sentences run

-- So are the conjectures of an inductive set.
abbrev pub InductiveSetsHold : Type 0
InductiveSetsHold = (m : ModelTree) (ks : List ℕ) (run : Run) → FitsModel m → IsInductive m ks → IsRun m run
    → AreTrueIn (conjectures_of m ks) run
