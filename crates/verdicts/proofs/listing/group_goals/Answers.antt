use Rattle.std.proofs.Common.{sym, subst, ap, ◌∙◌}
use Rattle.std.specs.List.{AllByRecursion}
use Rattle.rml_command.specs.Goals.{IsGoal, goals_among}
use Rattle.verdicts.proofs.GoalLists.{each_goal}
use Rattle.verdicts.proofs.listing.group_goals.Goals as goal

pub returns-clause-each : goal.returns-clause-each
returns-clause-each c =
    subst (AllByRecursion (IsGoal c.args.checked.now))
    (sym (c.in_ok-goals.ensures ∙ ap (goals_among c.args.head 1)
    c.stage_paths-paths.ensures.paths))
    (each_goal c.args.checked.now c.args.head c.requires)
