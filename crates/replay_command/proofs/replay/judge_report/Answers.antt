use Rattle.base.specs.Because.{Because}
use Rattle.report_read.specs.Laws.{IsReadBack, Answers}
use Rattle.replay_command.proofs.replay.judge_report.Goals as goal

-- the line is the first that cannot be read, and no report is there
pub returns-in-Err-For : goal.returns-in-Err-For
returns-in-Err-For c = record {
  unread = rw c.in-Err-For.field-0-is (rw c.in-Err-For.field-0-is at c.in-Err-For.ensures.unread);
  none = λ p is. rw c.in-Err-For.field-0-is at c.in-Err-For.ensures.there p is;
}
