-- What follows from a right report.
use Rattle.std.specs.Prelude.{◌≡◌}
use Rattle.std.specs.List.{AllByRecursion}
use Rattle.rml_command.specs.Models.{ModelTree, FitsModel}
use Rattle.rml_command.specs.Runs.{Safe}
use Rattle.rml_report.specs.Reports.{Reports, CanRender}
use Rattle.rml_report.specs.declared.report.Verdict.TheVariants as verdict
use Rattle.rml_report.specs.declared.report.Report.{Report}

-- Where a right report says `inductive`, no run of the model aborts or breaks a conjecture.
abbrev pub InductiveIsSafe : Type 0
InductiveIsSafe = (m : ModelTree) (report : Report) → FitsModel m → Reports m report
    → report.verdict ≡ verdict.Inductive → Safe m

-- A right report can be written out.
abbrev pub RightCanBeRendered : Type 0
RightCanBeRendered = (m : ModelTree) (report : Report) → Reports m report → AllByRecursion (CanRender m) report.groups
