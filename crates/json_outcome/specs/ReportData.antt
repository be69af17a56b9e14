-- The outcome of a check as data.
use Rattle.std.specs.Prelude.{ℕ, List, [], ◌∷◌, drop, codes}
use Rattle.serde_json.specs.Data.{Data, Members, string, no_members}
use Rattle.rml_command.specs.Models.{ModelTree}
use Rattle.rml_exec.specs.declared.trace.Counterexample.{Counterexample}
use Rattle.limits.specs.declared.cause.Cause.{Cause}
use Rattle.rml_report.specs.declared.least.Least.{Least}
use Rattle.rml_report.specs.declared.report.Axioms.{Axioms}
use Rattle.rml_report.specs.declared.report.Axioms.TheVariants as axioms
use Rattle.rml_report.specs.declared.report.Verdict.{Verdict}
use Rattle.rml_report.specs.declared.report.Verdict.TheVariants as verdict
use Rattle.rml_report.specs.declared.report.Answer.{Answer}
use Rattle.rml_report.specs.declared.report.Answer.TheVariants as answer
use Rattle.rml_report.specs.declared.report.Group.{Group}
use Rattle.rml_report.specs.declared.report.Report.{Report}
use Rattle.json_values.specs.Values.{list_data, number_data, object_of, set_each}
use Rattle.json_outcome.specs.GroupData.{stage_data, about_data, cause_data, least_data}
use Rattle.json_outcome.specs.ExecutionData.{first_or_null, execution_data}

-- the shown path, whether its structure is least, and the execution
abbrev pub failing_members : ModelTree → ℕ → Least → Counterexample → Data → List (List ℕ × Data)
failing_members m paths l shown branches =
    (codes "execution", execution_data m shown branches) ∷ (codes "answer", string (codes "fails"))
    ∷ (codes "path", number_data shown.trace.path) ∷ (codes "paths", number_data paths)
    ∷ (codes "least", least_data m.names l) ∷ []

-- the path that is left open, and why
abbrev pub undecided_members : ℕ → Cause → List (List ℕ × Data)
undecided_members path cause =
    (codes "answer", string (codes "undecided")) ∷ (codes "path", number_data path)
    ∷ (codes "cause", cause_data cause) ∷ []

-- what is said of a group
abbrev pub answer_members : ModelTree → Answer → Data → List (List ℕ × Data)
answer_members m answer.Holds branches = (codes "answer", string (codes "holds")) ∷ []
answer_members m (answer.Fails paths l shown) branches = failing_members m paths l shown branches
answer_members m (answer.Undecided path cause) branches = undecided_members path cause

-- a group and its answer; the branches are told of one that fails
unfoldable pub group_data : ModelTree → Group → Data → Data
group_data m g branches =
    object_of ((codes "stage", stage_data m.names g.stage) ∷ (codes "about", about_data m.names g.about)
    ∷ answer_members m g.answer branches)

-- the groups in order, each with what is told of its execution
abbrev pub groups_data : ModelTree → List Group → List Data → List Data
groups_data m [] branches = []
groups_data m (g ∷ gs) branches = group_data m g (first_or_null branches) ∷ groups_data m gs (drop 1 branches)

-- whether some structure satisfies the axioms is left open, for this cause
unfoldable pub open_data : Cause → Data
open_data cause = object_of ((codes "answer", string (codes "undecided")) ∷ (codes "cause", cause_data cause) ∷ [])

-- {"answer":"consistent"}
unfoldable pub settled_data : List ℕ → Data
settled_data answer = object_of ((codes "answer", string answer) ∷ [])

-- whether some structure satisfies the axioms
abbrev pub axioms_data : Axioms → Data
axioms_data axioms.Consistent = settled_data (codes "consistent")
axioms_data axioms.Inconsistent = settled_data (codes "inconsistent")
axioms_data (axioms.Undecided cause) = open_data cause

abbrev pub verdict_data : Verdict → Data
verdict_data verdict.Inductive = string (codes "inductive")
verdict_data verdict.NotInductive = string (codes "not inductive")
verdict_data verdict.Undecided = string (codes "undecided")

-- the verdict, the axioms, the groups
unfoldable pub report_members : ModelTree → Report → List Data → Members
report_members m r branches =
    set_each no_members ((codes "command", string (codes "check")) ∷ (codes "verdict", verdict_data r.verdict)
    ∷ (codes "axioms", axioms_data r.axioms) ∷ (codes "groups", list_data (groups_data m r.groups branches)) ∷ [])
