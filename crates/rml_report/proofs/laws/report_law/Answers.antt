use Rattle.rml_report.proofs.Right.{safe}
use Rattle.rml_report.proofs.laws.report_law.Goals as goal

pub returns : goal.returns
returns c = safe c.run_law.ensures
