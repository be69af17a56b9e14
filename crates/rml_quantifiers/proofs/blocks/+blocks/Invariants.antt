use Rattle.std.proofs.Common.{◌≡◌, ◌++◌, drop}
use Rattle.rml_syntax.specs.Tree.{command_trees, block_trees, block_of, blocks_of}
use Rattle.rml_quantifiers.specs.Quantifiers.{quantifiers_of_block, quantifiers_of_blocks}
use Rattle.rml_quantifiers.proofs.blocks.+blocks.Given as goal

abbrev pub invariant-add_block_quantifiers-loop-command : goal.invariant-add_block_quantifiers-loop-command
invariant-add_block_quantifiers-loop-command l =
    l.places.items ++ quantifiers_of_block (block_of (command_trees (drop l.command-index l.commands)))
    ≡ l.initial.places.items ++ quantifiers_of_block (block_of (command_trees l.commands))

abbrev pub invariant-add_command_quantifiers-loop-branch : goal.invariant-add_command_quantifiers-loop-branch
invariant-add_command_quantifiers-loop-branch l =
    l.places.items ++ quantifiers_of_blocks (blocks_of (block_trees (drop l.branch-index l.branch-items)))
    ≡ l.initial.places.items ++ quantifiers_of_blocks (blocks_of (block_trees l.branch-items))
