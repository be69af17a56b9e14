-- What follows from a report.
use Rattle.std.specs.List.{AllByRecursion}
use Rattle.rml_command.specs.Models.{ModelTree}
use Rattle.rml_report.specs.Reports.{Reports}
use Rattle.rml_report.specs.declared.report.Answer.{Answer}
use Rattle.rml_report.specs.declared.report.Answer.TheVariants as answer
use Rattle.rml_report.specs.declared.report.Report.{Report}
use Rattle.limits.specs.Ceilings.{Ceilings}
use Rattle.cti_minimise.specs.Minimal.{IsLeast}
use Rattle.lean_decide.specs.declared.settling.Counted.{Counted}
use Rattle.verdicts.specs.Answers.{IsReport}

-- each line of it is right
abbrev pub ReportsAreRight : Type 0
ReportsAreRight = (counted : Counted) (limits : Ceilings) (m : ModelTree) (report : Report)
    → IsReport counted limits m report → Reports m report

-- what is said of the sizes of a counterexample that is shown
abbrev pub IsLeastAsSaid : Ceilings → ModelTree → Answer → Type 0
IsLeastAsSaid limits m answer.Holds = Unit {0}
IsLeastAsSaid limits m (answer.Fails paths least shown) = IsLeast limits m shown.goal shown.structure least
IsLeastAsSaid limits m (answer.Undecided path cause) = Unit {0}

-- Each counterexample of a report has least sizes, or the search for smaller ones stopped, as the report says.
abbrev pub ShownAreLeast : Type 0
ShownAreLeast = (counted : Counted) (limits : Ceilings) (m : ModelTree) (report : Report)
    → IsReport counted limits m report
    → AllByRecursion (λ g. IsLeastAsSaid limits m g.answer) report.groups
