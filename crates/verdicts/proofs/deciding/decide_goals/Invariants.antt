use Rattle.std.proofs.Common.{drop}
use Rattle.std.specs.List.{AllByRecursion}
use Rattle.rml_command.specs.Goals.{IsGoal}
use Rattle.pool_wp.specs.Sharing.{IsPoolOf}
use Rattle.limits.specs.Ceilings.{ceilings}
use Rattle.verdicts.proofs.Completing.{Completes}
use Rattle.verdicts.proofs.deciding.decide_goals.Given as goal

abbrev pub invariant-loop-goal : goal.invariant-loop-goal
invariant-loop-goal l = record {
  shared : IsPoolOf l.checked l.shared;
  each : AllByRecursion (IsGoal l.checked) (drop l.goal-index l.goals);
  whole : Completes l.fn.counted (ceilings l.limits) l.checked l.fn.paths l.goals l.earliest
      (drop l.goal-index l.goals);
}
