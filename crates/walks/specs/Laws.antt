-- What is proved of walks.
use Rattle.std.specs.Prelude.{◌≡◌, ◌⊎◌, ℕ, ◌≤◌, true, List, [], ◌∷◌, Some}
use Rattle.std.specs.List.{AllByRecursion}
use Rattle.rml_command.specs.Trees.{PrimitiveTree}
use Rattle.base.specs.Lists.{numbered}
use Rattle.rml_command.specs.Paths.{has_abort}
use Rattle.rml_command.specs.Models.{ModelTree}
use Rattle.rml_command.specs.Goals.{stage_paths, is_for, HasAbout}
use Rattle.rml_command.specs.declared.goal.Stage.{Stage}
use Rattle.rml_command.specs.declared.goal.Stage.TheVariants as stage
use Rattle.walks.specs.declared.leg.Leg.{Leg}
use Rattle.walks.specs.declared.leg.Walk.{Walk}
use Rattle.walks.specs.Walks.{goals_of_length, walks_of, leg_path, joined}
use Rattle.walks.specs.Runs.{IsSafeLength, SafeWithin}

-- a path of the model
pub record IsLeg (m : ModelTree) (leg : Leg) : Type 0 where
  pub path : List PrimitiveTree
  pub is_path : numbered (stage_paths m leg.stage) leg.path ≡ Some path

-- nothing stands behind a path that ends in abort
abbrev pub AbortsLast : ModelTree → List Leg → Type 0
AbortsLast m [] = Unit {0}
AbortsLast m (leg ∷ legs) = (has_abort (leg_path m leg) ≡ true → legs ≡ []) × AbortsLast m legs

abbrev pub IsInit : Stage → Type 0
IsInit stage.Init = Unit {0}
IsInit (stage.Action a) = ⊥
IsInit stage.Final = ⊥

abbrev pub IsAction : Stage → Type 0
IsAction stage.Init = ⊥
IsAction (stage.Action a) = Unit {0}
IsAction stage.Final = ⊥

-- paths of actions, and behind them at most one of final
abbrev pub AreLater : List Leg → Type 0
AreLater [] = Unit {0}
AreLater (leg ∷ legs) = (IsAction leg.stage × AreLater legs) ⊎ ((leg.stage ≡ stage.Final) × (legs ≡ []))

-- a path of init comes first
abbrev pub AreInOrder : List Leg → Type 0
AreInOrder [] = ⊥
AreInOrder (leg ∷ legs) = IsInit leg.stage × AreLater legs

-- A walk of a model, perhaps with a path of final behind it: of its paths none but the last ends in abort.
pub record AreLegs (m : ModelTree) (legs : List Leg) : Type 0 where
  pub order : AreInOrder legs
  pub each : AllByRecursion (IsLeg m) legs
  pub last : AbortsLast m legs

-- A goal along a walk. Where abort is forbidden its last path ends in abort; else none does, and a conjecture of the
-- model is forbidden to be false.
pub record IsWalk (m : ModelTree) (walk : Walk) : Type 0 where
  pub legs : AreLegs m walk.parts
  pub kind : is_for walk.about (joined m walk.parts) ≡ true
  pub about : HasAbout m stage.Init walk.about

-- The walks of a length are walks of the model, and so are the goals along them.
abbrev pub ListedAreLegs : Type 0
ListedAreLegs = (m : ModelTree) (k : ℕ) → AllByRecursion (AreLegs m) (walks_of m k)

-- The goals of each length are goals along walks of the model.
abbrev pub GoalsAreWalks : Type 0
GoalsAreWalks = (m : ModelTree) (k : ℕ) → AllByRecursion (IsWalk m) (goals_of_length m k)

-- Where no goal of a length up to n has a run, no run with at most n actions aborts or breaks a conjecture.
abbrev pub BoundedIsSound : Type 0
BoundedIsSound = (m : ModelTree) (n : ℕ) → ((k : ℕ) → k ≤ n → IsSafeLength m k) → SafeWithin m n
