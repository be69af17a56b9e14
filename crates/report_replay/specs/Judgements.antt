-- What is found of a printed report: the first demand that is not met.
use Rattle.std.specs.Prelude.{ℕ, ◌+◌, ◌==◌, Bool, true, false, if◌then◌else◌, List, [], ◌∷◌, ◌++◌, Option, Some, None}
use Rattle.std.specs.List.{flat_map}
use Rattle.rml_command.specs.Models.{ModelTree}
use Rattle.rml_command.specs.declared.goal.About.{About}
use Rattle.rml_command.specs.declared.goal.About.TheVariants as about
use Rattle.rml_report.specs.declared.report.Verdict.{Verdict}
use Rattle.rml_report.specs.declared.report.Verdict.TheVariants as verdict
use Rattle.printed_report.specs.declared.printed.Printed.{Printed}
use Rattle.printed_report.specs.declared.printed.PrintedGroup.{PrintedGroup}
use Rattle.printed_report.specs.declared.printed.PrintedAnswer.{PrintedAnswer}
use Rattle.printed_report.specs.declared.printed.PrintedAnswer.TheVariants as answer
use Rattle.report_replay.specs.Demands.{Demand, table_count, group_demands}
use Rattle.report_replay.specs.declared.judged.Fault.{Fault}
use Rattle.report_replay.specs.declared.judged.Judged.{Judged}
use Rattle.report_replay.specs.declared.judged.Judged.TheVariants.{Confirmed, Denied}
use Rattle.report_replay.specs.declared.denial.DenialCode.TheVariants as denial

-- the line and the code of the first demand that is not met
abbrev pub first_unmet : List Demand → Option Fault
first_unmet [] = None
first_unmet (d ∷ ds) = if d.met then first_unmet ds else Some (record { line = d.line; code = d.code })

abbrev pub says_holds : PrintedAnswer → Bool
says_holds answer.Holds = true
says_holds (answer.Fails paths shown after) = false
says_holds answer.Undecided = false

-- one for a group that fails
abbrev pub fails_count : PrintedAnswer → ℕ
fails_count answer.Holds = 0
fails_count (answer.Fails paths shown after) = 1
fails_count answer.Undecided = 0

-- how many groups fail
abbrev pub executions : List PrintedGroup → ℕ
executions [] = 0
executions (g ∷ gs) = fails_count g.answer + executions gs

abbrev pub do_all_hold : List PrintedGroup → Bool
do_all_hold [] = true
do_all_hold (g ∷ gs) = if says_holds g.answer then do_all_hold gs else false

abbrev pub is_zero : ℕ → Bool
is_zero n = n == 0

-- Inductive if all groups hold, not inductive if one fails, else undecided.
abbrev pub verdict_of : List PrintedGroup → Verdict
verdict_of gs =
    if do_all_hold gs then verdict.Inductive
    else (if is_zero (executions gs) then verdict.Undecided else verdict.NotInductive)

abbrev pub same_verdict : Verdict → Verdict → Bool
same_verdict verdict.Inductive verdict.Inductive = true
same_verdict verdict.NotInductive verdict.NotInductive = true
same_verdict verdict.Undecided verdict.Undecided = true
same_verdict _ _ = false

-- how many lines a group takes that fails
abbrev pub fails_height : ModelTree → About → ℕ
fails_height m about.Abort = 6 + m.signature.sorts + table_count m
fails_height m (about.Conjecture k) = 7 + m.signature.sorts + table_count m + table_count m

-- how many lines a group with this answer takes
abbrev pub height : ModelTree → About → PrintedAnswer → ℕ
height m a answer.Holds = 1
height m a (answer.Fails paths shown after) = fails_height m a
height m a answer.Undecided = 1

-- the line behind these groups, which begin at a line
abbrev pub line_behind : ModelTree → ℕ → List PrintedGroup → ℕ
line_behind m n [] = n
line_behind m n (g ∷ gs) = line_behind m (g.line + height m g.about g.answer) gs

-- what is asked of the line of the verdict
abbrev pub verdict_demand : ModelTree → Printed → Demand
verdict_demand m p = record {
  line = line_behind m 2 p.groups;
  code = denial.WrongVerdict;
  met = same_verdict p.verdict (verdict_of p.groups);
}

-- all that is asked, in the order of the lines
abbrev pub demands : ModelTree → Printed → List Demand
demands m p = flat_map (group_demands m) p.groups ++ verdict_demand m p ∷ []

-- denied for this fault; where there is none, confirmed with as many executions as groups fail
abbrev pub judged_by : Printed → Option Fault → Judged
judged_by p None = Confirmed (executions p.groups)
judged_by p (Some fault) = Denied fault.line fault.code

-- The first line that says what is not so, and the first code there; or the number of groups that fail.
abbrev pub judgement : ModelTree → Printed → Judged
judgement m p = judged_by p (first_unmet (demands m p))
