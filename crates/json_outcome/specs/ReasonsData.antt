-- Which conjectures carry which group, as data.
use Rattle.std.specs.Prelude.{ℕ, Bool, true, false, List, [], ◌∷◌, map, codes}
use Rattle.serde_json.specs.Data.{Data, Members, boolean, null, string, no_members}
use Rattle.rml_command.specs.Models.{ModelTree}
use Rattle.rml_reasons.specs.declared.reason.Need.{Need}
use Rattle.rml_reasons.specs.declared.reason.Lack.{Lack}
use Rattle.rml_reasons.specs.declared.reason.Lack.TheVariants.{Fails, Open}
use Rattle.rml_reasons.specs.declared.reason.Carried.{Carried}
use Rattle.rml_reasons.specs.declared.reason.Carried.TheVariants.{By, Not}
use Rattle.model_reasons.specs.declared.reason.Reason.{Reason}
use Rattle.model_reasons.specs.Idle.{idle_conjectures, are_carried}
use Rattle.json_values.specs.Values.{list_data, number_data, object_of, set_each}
use Rattle.json_outcome.specs.ExecutionData.{execution_data}
use Rattle.json_outcome.specs.GroupData.{stage_data, about_data, cause_data, name_data}
use Rattle.json_outcome.specs.HoudiniData.{names_data}

-- What a group lacks: a path that fails, with the execution that shows it, or one that is left open, with the cause.
-- The branches of the path are not told.
unfoldable pub lack_data : ModelTree → Lack → Data
lack_data m (Fails shown) =
    object_of ((codes "execution", execution_data m shown null) ∷ (codes "answer", string (codes "fails"))
    ∷ (codes "path", number_data shown.goal.path) ∷ [])
lack_data m (Open goal c) =
    object_of ((codes "answer", string (codes "undecided")) ∷ (codes "path", number_data goal.path)
    ∷ (codes "cause", cause_data c) ∷ [])

-- a conjecture that carries a group, and what the group lacks without it
unfoldable pub need_data : ModelTree → Need → Data
need_data m n =
    object_of ((codes "conjecture", name_data m.names.conjectures n.conjecture) ∷ (codes "without", lack_data m n.lack)
    ∷ [])

-- the conjectures that carry a group, or what it lacks where all are held
abbrev pub carried_members : ModelTree → Carried → List (List ℕ × Data)
carried_members m (By needs) =
    (codes "carried", boolean true) ∷ (codes "needs", list_data (map (need_data m) needs)) ∷ []
carried_members m (Not lack) = (codes "carried", boolean false) ∷ (codes "lack", lack_data m lack) ∷ []

-- a group, and what carries it
unfoldable pub reason_data : ModelTree → Reason → Data
reason_data m r =
    object_of ((codes "stage", stage_data m.names r.stage) ∷ (codes "about", about_data m.names r.about)
    ∷ carried_members m r.carried)

-- the conjectures that carry no group but their own: of all groups, or, where some fail or are left open, of the others
abbrev pub idle_members : Bool → Data → List (List ℕ × Data)
idle_members true names = (codes "idle", names) ∷ []
idle_members false names = (codes "idle_so_far", names) ∷ []

-- the groups in order, and the conjectures that carry no group but their own
unfoldable pub reasons_members : ModelTree → List Reason → Members
reasons_members m reasons =
    set_each no_members ((codes "command", string (codes "why"))
    ∷ (codes "groups", list_data (map (reason_data m) reasons))
    ∷ idle_members (are_carried reasons) (names_data m.names (idle_conjectures m reasons)))
