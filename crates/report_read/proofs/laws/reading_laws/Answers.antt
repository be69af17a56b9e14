use Rattle.report_read.proofs.GroupLines.{exact}
use Rattle.report_read.proofs.laws.reading_laws.Goals as goal

pub returns : goal.returns
returns c = exact c.scan_laws.ensures c.tuple_laws.ensures c.goal_law.ensures.fit
