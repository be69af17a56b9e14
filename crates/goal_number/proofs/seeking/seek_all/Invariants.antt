-- The groups that are left give what all of them give.
use Rattle.std.proofs.Common.{◌≡◌, ◌-◌, ◌++◌, [], ◌∷◌, length}
use Rattle.std.specs.List.{flat_map}
use Rattle.base.specs.Lists.{count_from}
use Rattle.rml_command.specs.Goals.{IsGoal, group_goals, stage_groups, goals_of}
use Rattle.rml_command.specs.declared.goal.Stage.TheVariants as stage
use Rattle.rml_command.specs.declared.goal.About.TheVariants as about
use Rattle.goal_number.specs.Seeking.{seek, seek_on, IfFound}
use Rattle.goal_number.proofs.seeking.seek_all.Given as goal

abbrev pub invariant-loop-a : goal.invariant-loop-a
invariant-loop-a l = record {
  count : l.count ≡ length l.checked.actions;
  place : seek_on l.sought
      (flat_map (group_goals l.fn.checked) (flat_map (λ a. stage_groups l.fn.checked (stage.Action a))
      (count_from l.a (l.count - l.a)) ++ record { stage = stage.Final; about = about.Abort } ∷ []))
      ≡ seek l.fn.place (goals_of l.fn.checked);
  goal : IfFound (IsGoal l.checked) l.sought;
}
