use Rattle.report_read.proofs.GroupLines.{is_one}
use Rattle.report_read.proofs.PrintedText.{are_printed}
use Rattle.report_read.proofs.InOrder.{printed_is_shown}
use Rattle.report_read.proofs.laws.print_laws.Goals as goal

pub returns-clause-one : goal.returns-clause-one
returns-clause-one c = is_one c.scan_laws.ensures c.tuple_laws.ensures c.goal_law.ensures.fit

pub returns-clause-rendered : goal.returns-clause-rendered
returns-clause-rendered c =
    are_printed c.line_laws.ensures c.update_law.ensures c.goal_law.ensures.fit c.path_law.ensures.last
    c.tuple_laws.ensures c.tuple_set_laws.ensures.tuples

pub returns-clause-shown : goal.returns-clause-shown
returns-clause-shown c =
    printed_is_shown c.tuple_laws.ensures c.tuple_set_laws.ensures.tuples c.update_law.ensures c.goal_law.ensures.fit
    c.path_law.ensures.last
