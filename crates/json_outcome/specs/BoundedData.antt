-- What is answered of bounded runs, as data.
use Rattle.std.specs.Prelude.{ℕ, ◌+◌, List, [], ◌∷◌, map, length, Option, Some, None, codes}
use Rattle.serde_json.specs.Data.{Data, Members, null, string, no_members}
use Rattle.base.specs.Lists.{numbered}
use Rattle.fol_sig.specs.Tables.{Tables}
use Rattle.rml_command.specs.Trees.{PrimitiveTree}
use Rattle.rml_command.specs.Models.{ModelTree}
use Rattle.rml_command.specs.Goals.{stage_paths}
use Rattle.rml_command.specs.declared.names.Names.{Names}
use Rattle.rml_bmc.specs.Lengths.{verdict_of}
use Rattle.rml_bmc.specs.declared.answer.Part.{Part}
use Rattle.rml_bmc.specs.declared.answer.BoundCause.{BoundCause}
use Rattle.rml_bmc.specs.declared.answer.BoundCause.TheVariants as cause
use Rattle.rml_bmc.specs.declared.answer.Length.{Length}
use Rattle.rml_bmc.specs.declared.answer.Length.TheVariants as answer
use Rattle.rml_bmc.specs.declared.answer.Bounded.{Bounded}
use Rattle.rml_bmc.specs.declared.answer.Verdict.{Verdict}
use Rattle.rml_bmc.specs.declared.answer.Verdict.TheVariants as verdict
use Rattle.json_values.specs.Values.{list_data, number_data, numbers_data, counted_data, object_of, set_each}
use Rattle.json_outcome.specs.GroupData.{stage_data, about_data, cause_data}
use Rattle.json_outcome.specs.StructureData.{structure_data}
use Rattle.json_outcome.specs.ExecutionData.{takes_along}

-- the structure in which a part ends; null where it aborts
abbrev pub end_data : Names → Option Tables → Data
end_data names None = null
end_data names (Some end) = structure_data names end

-- the path that a part takes
abbrev pub part_path : ModelTree → Part → Option (List PrimitiveTree)
part_path m part = numbered (stage_paths m part.stage) part.trace.path

-- its number, what its havocs take, and how it ends; each structure of a run has the sizes of the one in which it
-- begins
unfoldable pub part_data : ModelTree → Tables → Part → Data
part_data m start part =
    object_of ((codes "stage", stage_data m.names part.stage) ∷ (codes "path", number_data part.trace.path)
    ∷ (codes "paths", number_data (length (stage_paths m part.stage)))
    ∷ (codes "takes", takes_along m.names start (part_path m part) part.trace.havoc)
    ∷ (codes "end", end_data m.names part.end) ∷ [])

-- {"kind":"paths","number":5000}; or the cause of a goal that is left open
abbrev pub bound_cause_data : BoundCause → Data
bound_cause_data (cause.Paths n) = counted_data (codes "paths") n
bound_cause_data (cause.Goal place c) = cause_data c

-- what is said of a length
abbrev pub length_members : ModelTree → Length → List (List ℕ × Data)
length_members m answer.Safe = (codes "answer", string (codes "safe")) ∷ []
length_members m (answer.Undecided c) =
    (codes "answer", string (codes "undecided")) ∷ (codes "cause", bound_cause_data c) ∷ []
length_members m (answer.Broken run) =
    (codes "answer", string (codes "broken")) ∷ (codes "about", about_data m.names run.about)
    ∷ (codes "start", structure_data m.names run.start) ∷
    (codes "parts", list_data (map (part_data m run.start) run.parts))
    ∷ (codes "values", numbers_data run.values) ∷ []

-- what is answered of the runs with k actions
unfoldable pub length_data : ModelTree → ℕ → Length → Data
length_data m k l = object_of ((codes "steps", number_data k) ∷ length_members m l)

-- the lengths from k on
abbrev pub lengths_data : ModelTree → ℕ → List Length → List Data
lengths_data m k [] = []
lengths_data m k (l ∷ ls) = length_data m k l ∷ lengths_data m (k + 1) ls

abbrev pub verdict_data : Verdict → Data
verdict_data verdict.Safe = string (codes "safe")
verdict_data verdict.NotSafe = string (codes "not safe")
verdict_data verdict.Undecided = string (codes "undecided")

-- the verdict, the lengths from 0 on
unfoldable pub bounded_members : ModelTree → Bounded → Members
bounded_members m b =
    set_each no_members ((codes "command", string (codes "bmc"))
    ∷ (codes "verdict", verdict_data (verdict_of b.lengths))
    ∷ (codes "lengths", list_data (lengths_data m 0 b.lengths)) ∷ [])
