-- Names, and what a group is about, as data.
use Rattle.std.specs.Prelude.{ℕ, List, [], ◌∷◌, codes, true}
use Rattle.serde_json.specs.Data.{Data, boolean}
use Rattle.rml_command.specs.declared.names.Names.{Names}
use Rattle.rml_command.specs.declared.goal.Stage.{Stage}
use Rattle.rml_command.specs.declared.goal.Stage.TheVariants as stage
use Rattle.rml_command.specs.declared.goal.About.{About}
use Rattle.rml_command.specs.declared.goal.About.TheVariants as about
use Rattle.rml_report.specs.Words.{name_at}
use Rattle.rml_report.specs.declared.least.Bound.{Bound}
use Rattle.rml_report.specs.declared.least.Bound.TheVariants as at
use Rattle.limits.specs.declared.cause.Cause.{Cause}
use Rattle.limits.specs.declared.cause.Cause.TheVariants as cause
use Rattle.rml_report.specs.declared.least.Least.{Least}
use Rattle.rml_report.specs.declared.least.Least.TheVariants as least
use Rattle.json_values.specs.Values.{text_data, number_data, object_of, kind_data, named_data, counted_data}

-- the name of this number, or the empty text
unfoldable pub name_data : List (List ℕ) → ℕ → Data
name_data names k = text_data (name_at names k)

-- {"kind":"action","name":"connect"}
abbrev pub stage_data : Names → Stage → Data
stage_data names stage.Init = kind_data (codes "init")
stage_data names (stage.Action a) = named_data (codes "action") (name_data names.actions a)
stage_data names stage.Final = kind_data (codes "final")

-- {"kind":"conjecture","name":"linked_down"}
abbrev pub about_data : Names → About → Data
about_data names about.Abort = kind_data (codes "abort")
about_data names (about.Conjecture k) = named_data (codes "conjecture") (name_data names.conjectures k)

-- the block, and what it must not do
abbrev pub group_members : Names → Stage → About → List (List ℕ × Data)
group_members names s a = (codes "stage", stage_data names s) ∷ (codes "about", about_data names a) ∷ []

-- {"kind":"terms","number":500}: the counted terms or size that passes a limit, or the budget of conflicts
abbrev pub cause_data : Cause → Data
cause_data cause.Formula = kind_data (codes "formula")
cause_data (cause.Terms n) = counted_data (codes "terms") n
cause_data (cause.Ground n) = counted_data (codes "ground") n
cause_data (cause.Conflicts n) = counted_data (codes "conflicts") n

-- the sort whose elements are bounded, or the relation whose true tuples are
abbrev pub bound_data : Names → Bound → Data
bound_data names (at.Sort k) = named_data (codes "sort") (name_data names.sorts k.0)
bound_data names (at.Rel r) = named_data (codes "relation") (name_data names.relations r.0)

-- whether there may be so many elements of this sort, or true tuples of this relation, was left open
unfoldable pub stopped_data : Names → Bound → ℕ → Cause → Data
stopped_data names bound size cause =
    object_of ((codes "at", bound_data names bound) ∷ (codes "size", number_data size)
    ∷ (codes "cause", cause_data cause) ∷ [])

-- true where the structure is least; else at which bound it is left open
abbrev pub least_data : Names → Least → Data
least_data names least.Yes = boolean true
least_data names (least.Stopped bound size cause) = stopped_data names bound size cause
