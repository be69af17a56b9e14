-- Walks that no run takes. A walk that begins with one is one, and no goal along it has a run.
use Rattle.std.specs.Prelude.{List}
use Rattle.std.specs.List.{AllByRecursion}
use Rattle.rml_command.specs.Models.{ModelTree}
use Rattle.walks.specs.declared.leg.Leg.{Leg}
use Rattle.walks.specs.declared.leg.Walk.{Walk}
use Rattle.walks.specs.Runs.{HasNoRun}
use Rattle.walk_model.specs.Laws.{HasNoOutcome}
use Rattle.rml_bmc.specs.declared.deciding.Known.{Known}
use Rattle.rml_bmc.specs.declared.deciding.Known.TheVariants.{Nothing, Infeasible}

-- no run has an outcome along any of these
abbrev pub AreInfeasible : ModelTree → List (List Leg) → Type 0
AreInfeasible m walks = AllByRecursion (HasNoOutcome m) walks

-- what is known of a walk
abbrev pub IsKnown : ModelTree → List Leg → Known → Type 0
IsKnown m legs Nothing = Unit {0}
IsKnown m legs Infeasible = HasNoOutcome m legs

-- and of a goal along one. Private contracts alone cite this.
abbrev pub IsKnownGoal : ModelTree → Walk → Known → Type 0
IsKnownGoal m walk Nothing = Unit {0}
IsKnownGoal m walk Infeasible = HasNoRun m walk
