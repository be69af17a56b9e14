use Rattle.verdicts.proofs.Right.{reports_are_right, shown_are_least}
use Rattle.verdicts.proofs.laws.report_law.Goals as goal

pub returns-clause-right : goal.returns-clause-right
returns-clause-right c = reports_are_right c.goal_law.ensures.listed

pub returns-clause-least : goal.returns-clause-least
returns-clause-least c = shown_are_least
