-- What the search ends with at one place, and what a trial ends with. Private contracts alone cite this.
use Rattle.std.specs.Prelude.{ℕ, suc, ◌<◌, ◌≤◌, ◌++◌, take, List, [], ◌∷◌, None}
use Rattle.rml_command.specs.Goals.{IsGoal}
use Rattle.rml_exec.specs.declared.trace.Counterexample.{Counterexample}
use Rattle.limits.specs.Ceilings.{Ceilings, ceilings}
use Rattle.obligation_decide.specs.Restricted.{RestrictedPassesFirst, HasNoneWhere, IsFailingWhere, IsLeftOpenWhere}
use Rattle.lean_decide.specs.Sought.{IsPrepared}
use Rattle.cti_minimise.specs.Bounding.{bounds_on}
use Rattle.cti_minimise.specs.Extents.{extent}
use Rattle.cti_minimise.specs.Minimal.{AreLeast, IsStoppedAt}
use Rattle.cti_minimise.specs.Within.{numbers_within}
use Rattle.cti_minimise.specs.declared.bounds.Bounds.{Bounds}
use Rattle.cti_minimise.specs.declared.minimising.Step.{Step}
use Rattle.cti_minimise.specs.declared.minimising.Step.TheVariants.{Settled, Stopped}
use Rattle.cti_minimise.specs.declared.minimising.Descent.{Descent}
use Rattle.cti_minimise.specs.declared.minimising.Descent.TheVariants as descent
use Rattle.cti_minimise.specs.declared.trials.Attempt.{Attempt}
use Rattle.cti_minimise.specs.declared.trials.Attempt.TheVariants as attempt
use Rattle.cti_minimise.specs.declared.trials.Trial.{Trial}
use Rattle.cti_minimise.specs.declared.trials.Trial.TheVariants.{Refuted, Found, Open}
use Rattle.cti_minimise.specs.declared.trials.Trials.{Trials}
use Rattle.obligation_decide.specs.GoalDecisions.{IsFailing}

-- the goal is one of the model, and what is built is of it
pub record AreTrials (t : Trials) : Type 0 where
  pub goal : IsGoal t.checked.now t.goal.now
  pub prepared : IsPrepared t.checked.now t.goal.now t.prepared.now

abbrev pub limits_of : Trials → Ceilings
limits_of t = ceilings t.limits.now

-- this is a counterexample of the goal
abbrev pub IsShown : Trials → Counterexample → Type 0
IsShown t shown = IsFailing (limits_of t) t.checked.now t.checked.now.conjectures t.goal.now shown

-- these numbers are least for the goal
abbrev pub LeastAre : Trials → List ℕ → Type 0
LeastAre t numbers = AreLeast (limits_of t) t.checked.now t.goal.now numbers

-- with bounds on these numbers the goal passes no limit by its size
abbrev pub PassWith : Trials → List ℕ → Type 0
PassWith t numbers =
    RestrictedPassesFirst (limits_of t) t.checked.now (bounds_on t.checked.now.signature numbers) t.goal.now None

-- the same, where the numbers before a place are bounded, and that at the place by any of these
abbrev pub AllPassAt : Trials → List ℕ → ℕ → ℕ → ℕ → Type 0
AllPassAt t numbers place low high = (n : ℕ) → low ≤ n → n < high → PassWith t (take place numbers ++ n ∷ [])

-- no counterexample is within bounds on these numbers, and this one is
abbrev pub NoneWith : Trials → List ℕ → Type 0
NoneWith t numbers = HasNoneWhere t.checked.now (bounds_on t.checked.now.signature numbers) t.goal.now

-- this counterexample of the goal is in a structure within bounds on these numbers
abbrev pub ShownWith : Trials → List ℕ → Counterexample → Type 0
ShownWith t numbers shown =
    IsFailingWhere (limits_of t) t.checked.now (bounds_on t.checked.now.signature numbers) t.goal.now shown

-- the numbers up to this place are least, or it is left open whether they are
abbrev pub IsStep : Trials → ℕ → Step → Type 0
IsStep t place (Settled shown) = IsShown t shown × LeastAre t (take (suc place) (extent shown.structure))
IsStep t place (Stopped shown number cause) =
    IsShown t shown × IsStoppedAt (limits_of t) t.checked.now t.goal.now shown.structure place number cause

-- the numbers up to this place are least, or those before it
abbrev pub IsDescent : Trials → ℕ → Descent → Type 0
IsDescent t place (descent.Settled shown) = IsShown t shown × LeastAre t (take (suc place) (extent shown.structure))
IsDescent t place (descent.Open shown) = IsShown t shown × LeastAre t (take place (extent shown.structure))

-- What an attempt shows of the structures within bounds, with which the goal passes no limit by its size; where it is
-- left open, nothing.
abbrev pub IsAttempt : Trials → Bounds → Attempt → Type 0
IsAttempt t b attempt.Refuted = PassWith t (numbers_within b) × NoneWith t (numbers_within b)
IsAttempt t b (attempt.Found shown) = PassWith t (numbers_within b) × ShownWith t (numbers_within b) shown
IsAttempt t b attempt.Open = Unit {0}

-- what a trial shows; where it is left open, the goal with these bounds is left open for this cause
abbrev pub IsTrial : Trials → Bounds → Trial → Type 0
IsTrial t b Refuted = PassWith t (numbers_within b) × NoneWith t (numbers_within b)
IsTrial t b (Found shown) = PassWith t (numbers_within b) × ShownWith t (numbers_within b) shown
IsTrial t b (Open cause) =
    IsLeftOpenWhere (limits_of t) t.checked.now (bounds_on t.checked.now.signature (numbers_within b)) t.goal.now cause
