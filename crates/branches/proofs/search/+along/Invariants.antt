use Rattle.std.proofs.Common.{◌≡◌, ◌+◌, ◌++◌, drop}
use Rattle.rml_syntax.specs.Tree.{command_trees, block_trees, block_of, blocks_of}
use Rattle.branches.specs.Search.{counts_behind, along_block, along_each}
use Rattle.branches.proofs.search.+along.Given as goal

abbrev pub invariant-push_along-loop-branch : goal.invariant-push_along-loop-branch
invariant-push_along-loop-branch l =
    (l.index ≡ l.branch-index)
    × (l.marks.items ≡ l.initial.marks.items)
    × (along_each l.at (l.index + 1) l.count (blocks_of (block_trees (drop l.branch-index l.branch-items))) l.paths
    l.left
    ≡ along_each l.at 1 l.count (blocks_of (block_trees l.branch-items)) l.paths l.number)

abbrev pub invariant-push_along_block-loop-command : goal.invariant-push_along_block-loop-command
invariant-push_along_block-loop-command l =
    (l.counts.items ≡ counts_behind (block_of (command_trees (drop l.command-index l.commands))) l.paths)
    × (l.marks.items
    ++ (along_block (block_of (command_trees (drop l.command-index l.commands))) l.paths l.left).marks
    ≡ l.initial.marks.items ++ (along_block (block_of (command_trees l.commands)) l.paths l.number).marks)
    × ((along_block (block_of (command_trees (drop l.command-index l.commands))) l.paths l.left).next
    ≡ (along_block (block_of (command_trees l.commands)) l.paths l.number).next)
