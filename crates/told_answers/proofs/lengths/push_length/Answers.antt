-- The number of actions, and the line of the cause.
use Rattle.std.proofs.Common.{codes}
use Rattle.told_answers.specs.RunsText.{actions_text, bound_line, open_line}
use Rattle.told_answers.proofs.Pieces.{two}
use Rattle.told_answers.proofs.lengths.push_length.Goals as goal

pub returns-in-Undecided-clause-left_open : goal.returns-in-Undecided-clause-left_open
unfolding open_line
returns-in-Undecided-clause-left_open g c =
    rw c.in-Undecided.is
    (two (actions_text (codes "runs with ") c.args.actions (codes " are left open: ")) (bound_line c.in-Undecided.cause)
    _ _ _ c.push_actions.ensures c.push_bound_line.ensures)
