use Rattle.rml_command.proofs.GoalList.{groups_sound, goals_listed}
use Rattle.rml_command.proofs.EachPath.{goal_paths_fit}
use Rattle.rml_command.proofs.laws.goal_law.Goals as goal

pub returns-clause-groups : goal.returns-clause-groups
returns-clause-groups c = groups_sound

pub returns-clause-listed : goal.returns-clause-listed
returns-clause-listed c = goals_listed

pub returns-clause-fit : goal.returns-clause-fit
returns-clause-fit c = goal_paths_fit
