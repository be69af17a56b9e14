-- The groups that are left give what all of them give.
use Rattle.std.proofs.Common.{◌≡◌, ◌-◌, length, map}
use Rattle.std.specs.List.{flat_map}
use Rattle.base.specs.Lists.{count_from}
use Rattle.rml_command.specs.Goals.{IsGoal, group_goals, stage_groups}
use Rattle.rml_command.specs.declared.goal.About.TheVariants as about
use Rattle.goal_number.specs.Seeking.{seek_on, IfFound}
use Rattle.goal_number.proofs.seeking.seek_stage.Given as goal

abbrev pub invariant-loop-k : goal.invariant-loop-k
invariant-loop-k l = record {
  count : l.count ≡ length l.checked.conjectures;
  place : seek_on l.sought
      (flat_map (group_goals l.fn.checked) (map (λ k. record { stage = l.fn.stage; about = about.Conjecture k })
      (count_from l.k (l.count - l.k))))
      ≡ seek_on l.fn.before (flat_map (group_goals l.fn.checked) (stage_groups l.fn.checked l.fn.stage));
  goal : IfFound (IsGoal l.checked) l.fn.before → IfFound (IsGoal l.checked) l.sought;
}
