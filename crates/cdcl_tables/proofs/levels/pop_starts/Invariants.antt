use Rattle.std.proofs.Common.{◌≤◌, ◌<◌, length, get_or}
use Rattle.cdcl_tables.proofs.levels.pop_starts.Given as goal

abbrev pub invariant-loop-level : goal.invariant-loop-level
invariant-loop-level l = record {
  within : l.level < length l.starts.items;
  above : l.second ≤ get_or l.starts.items l.level 0;
}

abbrev pub decreases-loop-level : goal.decreases-loop-level
decreases-loop-level l = l.level
