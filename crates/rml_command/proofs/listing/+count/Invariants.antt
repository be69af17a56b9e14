use Rattle.std.proofs.Common.{◌≡◌, ◌+◌, ◌*◌, ◌≤◌, drop}
use Rattle.rml_command.specs.View.{commands}
use Rattle.rml_command.specs.Paths.{paths_in_turn, paths_of_each}
use Rattle.rml_command.specs.Counts.{open_count, stopped_count, capped}
use Rattle.rml_command.proofs.listing.+count.Given as goal

abbrev pub invariant-count_in_turn-loop-part : goal.invariant-count_in_turn-loop-part
invariant-count_in_turn-loop-part l = record {
  few_open : l.onward ≤ 4097;
  few_stopped : l.stopped ≤ 4097;
  onward : capped (l.onward * open_count (paths_in_turn (commands (drop l.part-index l.parts))))
      ≡ capped (open_count (paths_in_turn (commands l.parts)));
  stopped : capped (l.stopped + l.onward * stopped_count (paths_in_turn (commands (drop l.part-index l.parts))))
      ≡ capped (stopped_count (paths_in_turn (commands l.parts)));
}

abbrev pub invariant-count_of_each-loop-branch : goal.invariant-count_of_each-loop-branch
invariant-count_of_each-loop-branch l = record {
  few_open : l.onward ≤ 4097;
  few_stopped : l.stopped ≤ 4097;
  onward : capped (l.onward + open_count (paths_of_each (commands (drop l.branch-index l.branches))))
      ≡ capped (open_count (paths_of_each (commands l.branches)));
  stopped : capped (l.stopped + stopped_count (paths_of_each (commands (drop l.branch-index l.branches))))
      ≡ capped (stopped_count (paths_of_each (commands l.branches)));
}
