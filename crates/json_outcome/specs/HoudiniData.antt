-- What is found of the greatest inductive set, as data.
use Rattle.std.specs.Prelude.{ℕ, List, [], ◌∷◌, map, drop, length, Option, Some, None, codes}
use Rattle.serde_json.specs.Data.{Data, Members, null, string, no_members}
use Rattle.rml_command.specs.Models.{ModelTree}
use Rattle.rml_command.specs.Goals.{stage_paths}
use Rattle.rml_command.specs.declared.names.Names.{Names}
use Rattle.rml_command.specs.declared.goal.Goal.{Goal}
use Rattle.limits.specs.declared.cause.Cause.{Cause}
use Rattle.rml_houdini.specs.declared.houdini.Dropped.{Dropped}
use Rattle.rml_houdini.specs.declared.houdini.Houdini.{Houdini}
use Rattle.json_values.specs.Values.{list_data, number_data, object_of, set_each}
use Rattle.json_outcome.specs.GroupData.{name_data, stage_data, about_data, cause_data}
use Rattle.json_outcome.specs.ExecutionData.{first_or_null, execution_data}

-- the names of conjectures
unfoldable pub names_data : Names → List ℕ → Data
names_data names ks = list_data (map (name_data names.conjectures) ks)

-- a dropped conjecture, those that were held, and the execution that breaks it
unfoldable pub dropped_data : ModelTree → Dropped → Data → Data
dropped_data m d branches =
    object_of ((codes "execution", execution_data m d.shown branches)
    ∷ (codes "conjecture", name_data m.names.conjectures d.conjecture) ∷ (codes "held", names_data m.names d.held)
    ∷ (codes "stage", stage_data m.names d.shown.goal.stage) ∷ (codes "about", about_data m.names d.shown.goal.about)
    ∷ (codes "path", number_data d.shown.trace.path)
    ∷ (codes "paths", number_data (length (stage_paths m d.shown.goal.stage))) ∷ [])

-- the drops in order, each with what is told of its execution
abbrev pub drops_data : ModelTree → List Dropped → List Data → List Data
drops_data m [] branches = []
drops_data m (d ∷ ds) branches = dropped_data m d (first_or_null branches) ∷ drops_data m ds (drop 1 branches)

-- the goal that is left open, with its cause
unfoldable pub open_data : Names → Goal → Cause → Data
open_data names goal cause =
    object_of ((codes "stage", stage_data names goal.stage) ∷ (codes "about", about_data names goal.about)
    ∷ (codes "path", number_data goal.path) ∷ (codes "cause", cause_data cause) ∷ [])

-- null where no goal is left open
abbrev pub unsettled_data : Names → Option (Goal × Cause) → Data
unsettled_data names None = null
unsettled_data names (Some first) = open_data names first.0 first.1

-- the kept conjectures are the greatest inductive set where no goal of theirs is left open
abbrev pub verdict_data : Option (Goal × Cause) → Data
verdict_data None = string (codes "greatest")
verdict_data (Some first) = string (codes "undecided")

-- the verdict, the drops, the kept conjectures, the goal that is left open
unfoldable pub houdini_members : ModelTree → Houdini → List Data → Members
houdini_members m h branches =
    set_each no_members ((codes "command", string (codes "houdini")) ∷ (codes "verdict", verdict_data h.unsettled)
    ∷ (codes "dropped", list_data (drops_data m h.dropped branches)) ∷ (codes "kept", names_data m.names h.kept)
    ∷ (codes "open", unsettled_data m.names h.unsettled) ∷ [])
