use Rattle.std.proofs.Common.{◌≡◌, ◌++◌, None, drop, length, map}
use Rattle.rml_syntax.specs.Tree.{command_tree}
use Rattle.rml_syntax.specs.Within.{BlockWithin, BlocksWithin}
use Rattle.rml_syntax.specs.Shape.{BlockNests, BlocksNest}
use Rattle.rml_command.specs.View.{command}
use Rattle.rml_sort_check.specs.Demands.{first_fault, block_demands, blocks_demands}
use Rattle.rml_sorts.specs.Commands.{conditions_of_block, conditions_of_blocks}
use Rattle.rml_names.specs.Drafts.{draft_in}
use Rattle.rml_sorts.specs.Sizes.{block_sizes, blocks_sizes}
use Rattle.rml_items.specs.Walking.{tree_of, trees_of, command_size, block_size}
use Rattle.rml_terms.specs.Shape.{max_nesting}
use Rattle.rml_sorts.proofs.BlockLists.{block_list, branch_list}
use Rattle.rml_sorts.proofs.blocks.+blocks.Given as goal

abbrev pub invariant-block-loop-c : goal.invariant-block-loop-c
invariant-block-loop-c l = record {
  nests : BlockNests max_nesting (tree_of (drop l.c-index l.commands));
  within : BlockWithin (length l.text) (tree_of (drop l.c-index l.commands));
  met : first_fault (block_demands l.text (draft_in l.draft).vocabulary l.format (tree_of (drop l.c-index l.commands)))
      ≡ None;
  sizes : first_fault (block_sizes l.text (draft_in l.draft).vocabulary (draft_in l.draft).bodies (tree_of (drop l.c-index l.commands)))
      ≡ first_fault (block_sizes l.text (draft_in l.draft).vocabulary (draft_in l.draft).bodies (tree_of l.commands));
  built : map command l.all.items ++ block_list l.text (draft_in l.draft).vocabulary (draft_in l.draft).bodies (tree_of (drop l.c-index l.commands))
      ≡ block_list l.text (draft_in l.draft).vocabulary (draft_in l.draft).bodies (tree_of l.commands);
  noted : l.conditions.items ++ conditions_of_block l.text (draft_in l.draft).vocabulary (draft_in l.draft).bodies (tree_of (drop l.c-index l.commands))
      ≡ l.fn.conditions.items ++ conditions_of_block l.text (draft_in l.draft).vocabulary (draft_in l.draft).bodies (tree_of l.commands);
}

abbrev pub invariant-command-loop-b : goal.invariant-command-loop-b
invariant-command-loop-b l = record {
  nests : BlocksNest max_nesting (trees_of (drop l.b-index l.b-items));
  within : BlocksWithin (length l.text) (trees_of (drop l.b-index l.b-items));
  met : first_fault (blocks_demands l.text (draft_in l.draft).vocabulary l.format (trees_of (drop l.b-index l.b-items)))
      ≡ None;
  sizes : first_fault (blocks_sizes l.text (draft_in l.draft).vocabulary (draft_in l.draft).bodies (trees_of (drop l.b-index l.b-items)))
      ≡ first_fault (blocks_sizes l.text (draft_in l.draft).vocabulary (draft_in l.draft).bodies (trees_of l.b-items));
  built : map command l.branches.items ++ branch_list l.text (draft_in l.draft).vocabulary (draft_in l.draft).bodies (trees_of (drop l.b-index l.b-items))
      ≡ branch_list l.text (draft_in l.draft).vocabulary (draft_in l.draft).bodies (trees_of l.b-items);
  noted : l.conditions.items ++ conditions_of_blocks l.text (draft_in l.draft).vocabulary (draft_in l.draft).bodies (trees_of (drop l.b-index l.b-items))
      ≡ l.fn.conditions.items ++ conditions_of_blocks l.text (draft_in l.draft).vocabulary (draft_in l.draft).bodies (trees_of l.b-items);
}

abbrev pub decreases-command : goal.decreases-command
decreases-command l = command_size (command_tree l.c.now)

abbrev pub decreases-block : goal.decreases-block
decreases-block l = block_size (tree_of l.commands.now)
