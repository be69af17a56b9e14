-- The goals of some conjectures, and what is known of them where these hold before a stage in place of all.
use Rattle.std.specs.Prelude.{◌≡◌, ◌⊎◌, ℕ, List, ◌∷◌, ◌++◌, length, map, Option, Some, None}
use Rattle.std.specs.List.{AllByRecursion, flat_map}
use Rattle.base.specs.Lists.{count_from}
use Rattle.rml_command.specs.Models.{ModelTree}
use Rattle.rml_command.specs.Goals.{group_goals, IsGoal}
use Rattle.rml_command.specs.declared.goal.Head.{Head}
use Rattle.rml_command.specs.declared.goal.Stage.{Stage}
use Rattle.rml_command.specs.declared.goal.Stage.TheVariants as stage
use Rattle.rml_command.specs.declared.goal.About.TheVariants as about
use Rattle.rml_command.specs.declared.goal.Goal.{Goal}
use Rattle.rml_exec.specs.declared.trace.Counterexample.{Counterexample}
use Rattle.rml_command.specs.InductiveSets.{conjectures_of}
use Rattle.rml_command.specs.Goals.{HasNone}
use Rattle.limits.specs.declared.cause.Cause.{Cause}
use Rattle.limits.specs.Ceilings.{Ceilings}
use Rattle.lean_decide.specs.declared.settling.Counted.{Counted}
use Rattle.rml_houdini.specs.Counts.{PassesFirst, IsLeftOpen}
use Rattle.rml_houdini.specs.declared.round.Round.{Round}
use Rattle.rml_houdini.specs.declared.round.Round.TheVariants.{Fails, Passes}
use Rattle.obligation_decide.specs.GoalDecisions.{IsFailing}

-- init and each action: behind these a conjecture is to hold
abbrev pub conjecture_stages : ModelTree → List Stage
conjecture_stages m = stage.Init ∷ map (λ a. stage.Action a) (count_from 0 (length m.actions))

-- the group of goals about this conjecture behind one stage
abbrev pub group_at : Stage → ℕ → Head
group_at s k = record { stage = s; about = about.Conjecture k }

-- the goals of these conjectures behind one stage
abbrev pub stage_goals : ModelTree → List ℕ → Stage → List Goal
stage_goals m ks s = flat_map (λ k. group_goals m (group_at s k)) ks

-- the goals of these conjectures, in the order of the model's goals
abbrev pub goals_about : ModelTree → List ℕ → List Goal
goals_about m ks = flat_map (λ s. stage_goals m ks s) (conjecture_stages m)

module _ (counted : Counted) (limits : Ceilings) (m : ModelTree) (held : List ℕ) where
  -- the goal passes no limit, and has no counterexample
  abbrev pub IsSafe : Goal → Type 0
  IsSafe goal = PassesFirst counted limits m held goal None × HasNone m (conjectures_of m held) goal

  -- it is left open for this cause
  abbrev pub IsOpen : Goal → Cause → Type 0
  IsOpen goal c = IsLeftOpen counted limits m held goal c

  -- the goal does not fail: it is safe, or left open for some cause
  abbrev pub IsSafeOrOpen : Goal → Type 0
  IsSafeOrOpen goal = IsSafe goal ⊎ ((c : Cause) × IsOpen goal c)

-- The goal of this execution is the first of the goals that fails, as the execution shows.
pub record IsFirstFailing (counted : Counted) (limits : Ceilings) (m : ModelTree) (held : List ℕ) (goals : List Goal)
    (shown : Counterexample) : Type 0 where
  pub before : List Goal
  pub behind : List Goal
  pub order : goals ≡ before ++ shown.goal ∷ behind
  pub earlier : AllByRecursion (IsSafeOrOpen counted limits m held) before
  pub goal : IsGoal m shown.goal
  pub within : PassesFirst counted limits m held shown.goal None
  pub fails : IsFailing limits m (conjectures_of m held) shown.goal shown

-- This is the first of the goals that is left open, with its cause, and none fails.
pub record IsFirstOpen (counted : Counted) (limits : Ceilings) (m : ModelTree) (held : List ℕ) (goals : List Goal)
    (goal : Goal) (c : Cause) : Type 0 where
  pub before : List Goal
  pub behind : List Goal
  pub order : goals ≡ before ++ goal ∷ behind
  pub earlier : AllByRecursion (IsSafe counted limits m held) before
  pub open_here : IsOpen counted limits m held goal c
  pub later : AllByRecursion (IsSafeOrOpen counted limits m held) behind

-- No goal fails; this one is the first that is left open, or none is.
abbrev pub AreSettled : Counted → Ceilings → ModelTree → List ℕ → List Goal → Option (Goal × Cause) → Type 0
AreSettled counted limits m held goals None = AllByRecursion (IsSafe counted limits m held) goals
AreSettled counted limits m held goals (Some first) = IsFirstOpen counted limits m held goals first.0 first.1

-- what was found of goals where these are held
abbrev pub IsDecided : Counted → Ceilings → ModelTree → List ℕ → List Goal → Round → Type 0
IsDecided counted limits m held goals (Fails shown) = IsFirstFailing counted limits m held goals shown
IsDecided counted limits m held goals (Passes unsettled) = AreSettled counted limits m held goals unsettled
