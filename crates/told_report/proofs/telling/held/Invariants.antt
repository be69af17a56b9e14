use Rattle.std.proofs.Common.{◌≡◌, ◌+◌, ◌≤◌, length}
use Rattle.told_report.specs.ToldText.{held}
use Rattle.told_report.proofs.telling.held.Given as goal

abbrev pub invariant-loop-rest : goal.invariant-loop-rest
invariant-loop-rest l = record {
  sum : l.count + held l.rest ≡ held l.groups;
  room : l.count + length l.rest ≤ length l.groups;
}

abbrev pub decreases-loop-rest : goal.decreases-loop-rest
decreases-loop-rest l = length l.rest
