use Rattle.confirmed_reports.proofs.CheckedReports.{checked_are_confirmed}
use Rattle.confirmed_reports.proofs.laws.checked_law.Goals as goal

pub returns : goal.returns
returns c = checked_are_confirmed c.confirmed_law.ensures
