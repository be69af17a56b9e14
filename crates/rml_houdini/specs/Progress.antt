-- How far a round has come. Private contracts alone cite this.
use Rattle.std.specs.Prelude.{◌≡◌, ◌⊎◌, ℕ, List, [], ◌∷◌, length, map, Option, Some, None}
use Rattle.std.specs.List.{flat_map}
use Rattle.base.specs.Lists.{count_from}
use Rattle.rml_command.specs.Models.{ModelTree}
use Rattle.rml_command.specs.declared.goal.Stage.{Stage}
use Rattle.rml_command.specs.declared.goal.Stage.TheVariants as stage
use Rattle.rml_command.specs.declared.goal.About.{About}
use Rattle.rml_command.specs.declared.goal.About.TheVariants as about
use Rattle.rml_command.specs.declared.goal.Goal.{Goal}
use Rattle.limits.specs.declared.cause.Cause.{Cause}
use Rattle.limits.specs.Ceilings.{Ceilings}
use Rattle.lean_decide.specs.declared.settling.Counted.{Counted}
use Rattle.rml_houdini.specs.Rounds.{stage_goals, IsSafe, IsOpen, IsFirstFailing}
use Rattle.rml_houdini.specs.declared.round.Round.{Round}
use Rattle.std.specs.Option.{option_or}
use Rattle.rml_houdini.specs.declared.round.Round.TheVariants as round

module _ (counted : Counted) (limits : Ceilings) (m : ModelTree) (held : List ℕ) where
  -- No goal fails; the first open goal before them is `from`, and behind them it is `to`.
  abbrev pub Leads : Option (Goal × Cause) → List Goal → Option (Goal × Cause) → Type 0
  Leads from [] to = to ≡ from
  Leads from (g ∷ gs) to =
      (IsSafe counted limits m held g × Leads from gs to)
      ⊎ ((c : Cause) × IsOpen counted limits m held g c × Leads (option_or from (Some (g, c))) gs to)

  -- what was found of these goals, which stand behind others whose first open goal is `from`
  abbrev pub IsRound : Option (Goal × Cause) → List Goal → Round → Type 0
  IsRound from goals (round.Fails shown) = IsFirstFailing counted limits m held goals shown
  IsRound from goals (round.Passes to) = Leads from goals to

-- it is a conjecture that is to hold
abbrev pub IsConjecture : About → Type 0
IsConjecture about.Abort = ⊥
IsConjecture (about.Conjecture k) = Unit {0}

-- the goals of these conjectures behind the actions
abbrev pub action_goals : ModelTree → List ℕ → List Goal
action_goals m ks = flat_map (λ s. stage_goals m ks s) (map (λ a. stage.Action a) (count_from 0 (length m.actions)))

-- behind init and behind an action, conjectures are to hold
abbrev pub IsConjectureStage : Stage → Type 0
IsConjectureStage stage.Init = Unit {0}
IsConjectureStage (stage.Action a) = Unit {0}
IsConjectureStage stage.Final = ⊥
