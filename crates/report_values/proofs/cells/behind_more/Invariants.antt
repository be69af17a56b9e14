use Rattle.std.proofs.Common.{◌≡◌, length}
use Rattle.rml_report.specs.TableText.{more_text}
use Rattle.line_scan.specs.Scanning.{behind}
use Rattle.report_values.proofs.cells.behind_more.Given as goal

abbrev pub invariant-loop-rest : goal.invariant-loop-rest
invariant-loop-rest l = behind (more_text l.rest) l.scan ≡ behind (more_text l.elements) l.fn.first

abbrev pub decreases-loop-rest : goal.decreases-loop-rest
decreases-loop-rest l = length l.rest
