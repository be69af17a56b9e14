use Rattle.rml_command.proofs.EachGoal.{safe_by_goals}
use Rattle.rml_command.proofs.laws.each_goal_law.Goals as goal

pub returns : goal.returns
returns c = safe_by_goals c.run_law.ensures
