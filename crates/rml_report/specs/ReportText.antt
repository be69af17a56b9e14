-- The text of a report, a definition for each kind of line.
use Rattle.std.specs.Prelude.{ℕ, List, [], ◌++◌, Option, Some, None, codes}
use Rattle.std.specs.List.{flat_map}
use Rattle.std.specs.Fmt.{decimal}
use Rattle.rml_command.specs.Trees.{PrimitiveTree}
use Rattle.rml_command.specs.Outcomes.{Outcome, ended, aborted, follow_path}
use Rattle.rml_command.specs.Models.{ModelTree}
use Rattle.rml_command.specs.Goals.{goal_path}
use Rattle.rml_command.specs.declared.names.Names.{Names}
use Rattle.rml_command.specs.declared.goal.Stage.{Stage}
use Rattle.rml_command.specs.declared.goal.Stage.TheVariants as stage
use Rattle.rml_command.specs.declared.goal.About.{About}
use Rattle.rml_command.specs.declared.goal.About.TheVariants as about
use Rattle.rml_exec.specs.declared.trace.Counterexample.{Counterexample}
use Rattle.rml_report.specs.Words.{name_at, labelled, cause_text, numbers_line}
use Rattle.rml_report.specs.TableText.{tables_text, sorts_text}
use Rattle.rml_report.specs.HavocText.{havoc_line}
use Rattle.rml_report.specs.declared.least.Bound.{Bound}
use Rattle.rml_report.specs.declared.least.Bound.TheVariants as at
use Rattle.limits.specs.declared.cause.Cause.{Cause}
use Rattle.rml_report.specs.declared.least.Least.{Least}
use Rattle.rml_report.specs.declared.least.Least.TheVariants as least
use Rattle.rml_report.specs.declared.report.Axioms.{Axioms}
use Rattle.rml_report.specs.declared.report.Axioms.TheVariants as axioms
use Rattle.rml_report.specs.declared.report.Verdict.{Verdict}
use Rattle.rml_report.specs.declared.report.Verdict.TheVariants as verdict
use Rattle.rml_report.specs.declared.report.Answer.{Answer}
use Rattle.rml_report.specs.declared.report.Answer.TheVariants as answer
use Rattle.rml_report.specs.declared.report.Group.{Group}
use Rattle.rml_report.specs.declared.report.Report.{Report}

-- init, action NAME, final
abbrev pub stage_text : Names → Stage → List ℕ
stage_text names stage.Init = codes "init"
stage_text names (stage.Action a) = codes "action " ++ name_at names.actions a
stage_text names stage.Final = codes "final"

-- abort, or the conjecture's name
abbrev pub about_text : Names → About → List ℕ
about_text names about.Abort = codes " abort"
about_text names (about.Conjecture k) = codes " " ++ name_at names.conjectures k

-- the stage and what the group is about: the front of its line
unfoldable pub head_text : Names → Stage → About → List ℕ
head_text names s a = stage_text names s ++ about_text names a

-- `path P of N`: the number of the shown path, and how many paths the stage has
unfoldable pub path_line : ℕ → ℕ → List ℕ
path_line path paths = codes "  path " ++ decimal path ++ codes " of " ++ decimal paths ++ codes "\n"

-- the sort's name; or the word `relation` and the relation's name
abbrev pub bound_text : Names → Bound → List ℕ
bound_text names (at.Sort k) = labelled (codes "stopped ") (name_at names.sorts k.0) (codes " ")
bound_text names (at.Rel r) = labelled (codes "stopped relation ") (name_at names.relations r.0) (codes " ")

-- the sort or relation at which the search for least numbers stopped, the number tried there, and the cause
unfoldable pub stopped_text : Names → Bound → ℕ → Cause → List ℕ
stopped_text names bound size cause = bound_text names bound ++ decimal size ++ codes " " ++ cause_text cause

-- whether the sizes and numbers of tuples are least, or where the search for least ones stopped
abbrev pub least_text : Names → Least → List ℕ
least_text names least.Yes = codes "yes"
least_text names (least.Stopped bound size cause) = stopped_text names bound size cause

-- the line `least:` of a group that fails
unfoldable pub least_line : Names → Least → List ℕ
least_line names l = codes "  least: " ++ least_text names l ++ codes "\n"

-- the outcome of the shown path, followed from the shown structure
abbrev pub followed : ModelTree → Option (List PrimitiveTree) → Counterexample → Option Outcome
followed m None shown = None
followed m (Some path) shown = follow_path m.axioms path shown.trace.havoc shown.structure

-- the same along the path of the shown goal; None where a step is blocked, or the model has no such path
abbrev pub outcome_of : ModelTree → Counterexample → Option Outcome
outcome_of m shown = followed m (goal_path m shown.goal) shown

-- the tables of the structure in which the path ends
abbrev pub end_tables : Names → Option Outcome → List ℕ
end_tables names None = []
end_tables names (Some aborted) = []
end_tables names (Some (ended s)) = tables_text names s

-- how a path ends that breaks a conjecture: the tables of its end, and the values of the leading quantifiers
unfoldable pub end_text : ModelTree → Counterexample → List ℕ
end_text m shown =
    codes "  after\n" ++ end_tables m.names (outcome_of m shown) ++ numbers_line (codes "  values:") shown.values

-- how the shown path ends
abbrev pub outcome_text : ModelTree → About → Counterexample → List ℕ
outcome_text m about.Abort shown = codes "  aborts\n"
outcome_text m (about.Conjecture k) shown = end_text m shown

-- An execution: the structure in which it begins, the elements and tables of its havocs, and how it ends.
unfoldable pub execution_text : ModelTree → About → Counterexample → List ℕ
execution_text m a shown =
    codes "  before\n" ++ sorts_text m.names shown.structure ++ tables_text m.names shown.structure
    ++ havoc_line shown.structure (goal_path m shown.goal) shown.trace.havoc ++ outcome_text m a shown

-- what stands behind the head of a group that fails
unfoldable pub block_text : ModelTree → About → ℕ → Least → Counterexample → List ℕ
block_text m a paths l shown =
    codes ": fails\n" ++ path_line shown.trace.path paths ++ least_line m.names l ++ execution_text m a shown

-- what stands behind the head of a group that is left open: the path of its first open goal, and the cause
unfoldable pub undecided_text : ℕ → Cause → List ℕ
undecided_text path cause = codes ": undecided path " ++ decimal path ++ codes " " ++ cause_text cause ++ codes "\n"

-- what stands behind the head of a group
abbrev pub answer_text : ModelTree → About → Answer → List ℕ
answer_text m a answer.Holds = codes ": holds\n"
answer_text m a (answer.Fails paths l shown) = block_text m a paths l shown
answer_text m a (answer.Undecided path cause) = undecided_text path cause

-- the lines of one group
unfoldable pub group_text : ModelTree → Group → List ℕ
group_text m g = head_text m.names g.stage g.about ++ answer_text m g.about g.answer

-- the line of axioms of which it is left open whether they are consistent, with the cause
unfoldable pub open_text : Cause → List ℕ
open_text cause = codes "axioms: undecided " ++ cause_text cause ++ codes "\n"

-- the first line of a report
abbrev pub axioms_text : Axioms → List ℕ
axioms_text axioms.Consistent = codes "axioms: consistent\n"
axioms_text axioms.Inconsistent = codes "axioms: inconsistent\n"
axioms_text (axioms.Undecided cause) = open_text cause

-- the last line of a report
abbrev pub verdict_text : Verdict → List ℕ
verdict_text verdict.Inductive = codes "verdict: inductive\n"
verdict_text verdict.NotInductive = codes "verdict: not inductive\n"
verdict_text verdict.Undecided = codes "verdict: undecided\n"

-- the axioms, the groups, the verdict
unfoldable pub report_text : ModelTree → Report → List ℕ
report_text m r = axioms_text r.axioms ++ flat_map (group_text m) r.groups ++ verdict_text r.verdict
