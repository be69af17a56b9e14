use Rattle.std.proofs.Common.{◌≡◌, ◌++◌, length, IfSome}
use Rattle.std.specs.List.{AllByRecursion}
use Rattle.rml_report.specs.Reports.{CanRender}
use Rattle.json_outcome.specs.ReportData.{groups_data}
use Rattle.json_outcome.proofs.report.group_values.Given as goal

abbrev pub invariant-loop-rest : goal.invariant-loop-rest
invariant-loop-rest l = record {
  shown : AllByRecursion (CanRender l.checked) l.rest;
  groups : IfSome l.list (λ ds.
      ds ++ groups_data l.checked l.rest l.given ≡ groups_data l.checked l.groups l.branches);
}

abbrev pub decreases-loop-rest : goal.decreases-loop-rest
decreases-loop-rest l = length l.rest
