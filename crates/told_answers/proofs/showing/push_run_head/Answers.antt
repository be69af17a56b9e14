-- The number of actions, and what goes wrong.
use Rattle.std.proofs.Common.{codes}
use Rattle.told_report.specs.ToldText.{fault_text}
use Rattle.told_answers.specs.RunsText.{actions_text, run_head}
use Rattle.told_answers.proofs.Pieces.{two}
use Rattle.told_answers.proofs.showing.push_run_head.Goals as goal

pub returns : goal.returns
unfolding run_head
returns c =
    two (actions_text (codes "\na run with ") c.args.actions (codes "")) (fault_text c.args.names.now c.args.about)
    _ _ _ c.push_actions.ensures c.push_fault.ensures
