-- A report as it is told: the verdict, the axioms where they are in doubt, whether nothing but aborts is asked for,
-- each counterexample, and at the end what fails, what is left open, and how much holds.
use Rattle.std.specs.Prelude.{ℕ, ◌+◌, List, [], ◌∷◌, ◌++◌, length, codes}
use Rattle.std.specs.List.{flat_map}
use Rattle.fol_formula.specs.Syntax.{FormTree}
use Rattle.rml_command.specs.Models.{ModelTree}
use Rattle.rml_command.specs.declared.names.Names.{Names}
use Rattle.rml_command.specs.declared.goal.Stage.{Stage}
use Rattle.rml_command.specs.declared.goal.About.{About}
use Rattle.rml_command.specs.declared.goal.About.TheVariants as about
use Rattle.rml_exec.specs.declared.trace.Counterexample.{Counterexample}
use Rattle.rml_report.specs.Words.{name_at, labelled}
use Rattle.rml_report.specs.ReportText.{stage_text, head_text}
use Rattle.limits.specs.declared.cause.Cause.{Cause}
use Rattle.rml_report.specs.declared.least.Bound.{Bound}
use Rattle.rml_report.specs.declared.least.Bound.TheVariants as at
use Rattle.rml_report.specs.declared.least.Least.{Least}
use Rattle.rml_report.specs.declared.least.Least.TheVariants as least
use Rattle.rml_report.specs.declared.report.Axioms.{Axioms}
use Rattle.rml_report.specs.declared.report.Axioms.TheVariants as axioms
use Rattle.rml_report.specs.declared.report.Verdict.{Verdict}
use Rattle.rml_report.specs.declared.report.Verdict.TheVariants as verdict
use Rattle.rml_report.specs.declared.report.Answer.{Answer}
use Rattle.rml_report.specs.declared.report.Answer.TheVariants as answer
use Rattle.rml_report.specs.declared.report.Group.{Group}
use Rattle.rml_report.specs.declared.report.Report.{Report}
use Rattle.told_report.specs.NumberText.{numbered, two_numbered}
use Rattle.told_report.specs.CauseWords.{cause_words, cause_line, open_at}
use Rattle.told_report.specs.InText.{TextTold}
use Rattle.told_report.specs.ExecutionText.{execution_text}

-- what a block does that it must not
abbrev pub fault_text : Names → About → List ℕ
fault_text names about.Abort = codes " aborts"
fault_text names (about.Conjecture k) = codes " breaks " ++ name_at names.conjectures k

-- action connect breaks linked_down
abbrev pub broken_text : Names → Stage → About → List ℕ
broken_text names s a = codes "\n" ++ stage_text names s ++ fault_text names a

-- (path 1 of 2)
unfoldable pub path_text : ℕ → ℕ → List ℕ
path_text path paths = two_numbered (codes " (path ") path (codes " of ") paths (codes ")\n")

-- the sort or relation that may be smaller
abbrev pub bound_text : Names → Bound → List ℕ
bound_text names (at.Sort k) =
    labelled (codes "  there may be a smaller one (") (name_at names.sorts k.0) (codes ": at most ")
bound_text names (at.Rel r) =
    labelled (codes "  there may be a smaller one (relation ") (name_at names.relations r.0) (codes ": at most ")

-- there may be a smaller one (node: at most 2): .., in a line; nothing where the counterexample is least
abbrev pub least_text : Names → Least → List ℕ
least_text names least.Yes = []
least_text names (least.Stopped bound size c) =
    bound_text names bound ++ numbered (codes "") size (codes "): ") ++ cause_words c ++ codes "\n"

-- what the block does, on which of its paths, whether the structure may be smaller, and the execution
unfoldable pub failure_text : ModelTree → TextTold → Stage → About → ℕ → Least → Counterexample → List ℕ
failure_text m told s a paths l shown =
    broken_text m.names s a ++ path_text shown.trace.path paths ++ least_text m.names l ++ execution_text m told a shown

-- a group that fails, behind an empty line
abbrev pub failing_text : ModelTree → TextTold → Stage → About → Answer → List ℕ
failing_text m told s a answer.Holds = []
failing_text m told s a (answer.Fails paths l shown) = failure_text m told s a paths l shown
failing_text m told s a (answer.Undecided path c) = []

-- empty where the group holds or is left open
abbrev pub group_failing : ModelTree → TextTold → Group → List ℕ
group_failing m told g = failing_text m told g.stage g.about g.answer

-- action connect linked_down is left open at path 1: .., in a line
unfoldable pub undecided_text : Names → Stage → About → ℕ → Cause → List ℕ
undecided_text names s a path c =
    head_text names s a ++ open_at (codes " is left open at path ") path c (codes "\n")

-- action connect breaks linked_down, in a line
unfoldable pub failed_line : Names → Stage → About → List ℕ
failed_line names s a = stage_text names s ++ fault_text names a ++ codes "\n"

-- a group that does not hold, in a line
abbrev pub summary_text : Names → Stage → About → Answer → List ℕ
summary_text names s a answer.Holds = []
summary_text names s a (answer.Fails paths l shown) = failed_line names s a
summary_text names s a (answer.Undecided path c) = undecided_text names s a path c

-- the line of a group at the end of the report; empty where it holds
abbrev pub group_summary : Names → Group → List ℕ
group_summary names g = summary_text names g.stage g.about g.answer

-- 1 where the group holds, else 0
abbrev pub held_by : Answer → ℕ
held_by answer.Holds = 1
held_by (answer.Fails paths l shown) = 0
held_by (answer.Undecided path c) = 0

-- how many groups hold
abbrev pub held : List Group → ℕ
held [] = 0
held (g ∷ gs) = held_by g.answer + held gs

-- 12 of 14 groups hold
unfoldable pub count_line : List Group → List ℕ
count_line gs = two_numbered (codes "") (held gs) (codes " of ") (length gs) (codes " groups hold\n")

-- the first line of the report
abbrev pub verdict_line : Verdict → List ℕ
verdict_line verdict.Inductive = codes "inductive\n"
verdict_line verdict.NotInductive = codes "not inductive\n"
verdict_line verdict.Undecided = codes "undecided\n"

-- nothing where the axioms are consistent
abbrev pub axioms_line : Axioms → List ℕ
axioms_line axioms.Consistent = []
axioms_line axioms.Inconsistent = codes "no structure satisfies the axioms, so everything holds\n"
axioms_line (axioms.Undecided c) =
    cause_line (codes "whether some structure satisfies the axioms is left open: ") c

-- nothing where some conjecture is asked for
abbrev pub asked_line : List FormTree → List ℕ
asked_line [] = codes "the model has no conjectures, so only aborts are asked for\n"
asked_line (c ∷ cs) = []

-- of a model and a report, with what the text of the model tells
unfoldable pub told_text : ModelTree → TextTold → Report → List ℕ
told_text m told r =
    verdict_line r.verdict ++ axioms_line r.axioms ++ asked_line m.conjectures ++ flat_map
    (group_failing m told) r.groups
    ++ codes "\n" ++ flat_map (group_summary m.names) r.groups ++ count_line r.groups
