use Rattle.std.proofs.Common.{◌≡◌, ◌≤◌, ◌++◌, length, take}
use Rattle.rml_syntax.specs.Tree.{command_trees, block_of}
use Rattle.branches.specs.Search.{counts_behind}
use Rattle.branches.proofs.search.counts_behind.Given as goal

abbrev pub invariant-loop-left : goal.invariant-loop-left
invariant-loop-left l =
    (l.left ≤ length l.commands)
    × (l.counts.items ++ counts_behind (block_of (command_trees (take l.left l.commands))) l.count
    ≡ counts_behind (block_of (command_trees l.commands)) l.paths)

abbrev pub decreases-loop-left : goal.decreases-loop-left
decreases-loop-left l = l.left
