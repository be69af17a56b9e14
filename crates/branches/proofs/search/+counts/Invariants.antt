use Rattle.std.proofs.Common.{◌≡◌, ◌≤◌, length, take, drop}
use Rattle.rml_syntax.specs.Tree.{command_trees, block_trees, block_of, blocks_of}
use Rattle.branches.specs.Search.{count_through_block, count_through_each}
use Rattle.branches.proofs.search.+counts.Given as goal

abbrev pub invariant-count_through-loop-branch : goal.invariant-count_through-loop-branch
invariant-count_through-loop-branch l =
    count_through_each (blocks_of (block_trees (drop l.branch-index l.branch-items))) l.paths l.count
    ≡ count_through_each (blocks_of (block_trees l.branch-items)) l.paths 0

abbrev pub invariant-count_through_block-loop-left : goal.invariant-count_through_block-loop-left
invariant-count_through_block-loop-left l =
    (l.left ≤ length l.commands)
    × (count_through_block (block_of (command_trees (take l.left l.commands))) l.count
    ≡ count_through_block (block_of (command_trees l.commands)) l.paths)

abbrev pub decreases-count_through_block-loop-left : goal.decreases-count_through_block-loop-left
decreases-count_through_block-loop-left l = l.left
