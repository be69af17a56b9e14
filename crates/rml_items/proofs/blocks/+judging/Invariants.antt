use Rattle.std.proofs.Common.{◌≡◌, drop, length}
use Rattle.rml_syntax.specs.Tree.{command_tree}
use Rattle.rml_syntax.specs.Within.{BlockWithin, BlocksWithin}
use Rattle.rml_syntax.specs.Shape.{BlockNests, BlocksNest}
use Rattle.rml_sort_check.specs.Demands.{first_fault, block_demands, blocks_demands}
use Rattle.rml_names.specs.Drafts.{words_in}
use Rattle.rml_items.specs.Walking.{tree_of, trees_of, command_size, block_size}
use Rattle.rml_terms.specs.Shape.{max_nesting}
use Rattle.rml_items.proofs.blocks.+judging.Given as goal

abbrev pub invariant-block_fault-loop-c : goal.invariant-block_fault-loop-c
invariant-block_fault-loop-c l = record {
  nests : BlockNests max_nesting (tree_of (drop l.c-index l.commands));
  within : BlockWithin (length l.text) (tree_of (drop l.c-index l.commands));
  left : first_fault (block_demands l.text (words_in l.known) l.format (tree_of (drop l.c-index l.commands)))
      ≡ first_fault (block_demands l.text (words_in l.known) l.format (tree_of l.commands));
}

abbrev pub invariant-command_fault-loop-b : goal.invariant-command_fault-loop-b
invariant-command_fault-loop-b l = record {
  nests : BlocksNest max_nesting (trees_of (drop l.b-index l.b-items));
  within : BlocksWithin (length l.text) (trees_of (drop l.b-index l.b-items));
  left : first_fault (blocks_demands l.text (words_in l.known) l.format (trees_of (drop l.b-index l.b-items)))
      ≡ first_fault (blocks_demands l.text (words_in l.known) l.format (trees_of l.b-items));
}

abbrev pub decreases-command_fault : goal.decreases-command_fault
decreases-command_fault l = command_size (command_tree l.c.now)

abbrev pub decreases-block_fault : goal.decreases-block_fault
decreases-block_fault l = block_size (tree_of l.commands.now)
