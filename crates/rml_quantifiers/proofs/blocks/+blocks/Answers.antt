use Rattle.std.proofs.Common.{refl, ap, sym, ◌∙◌, ◌++◌}
use Rattle.base.proofs.Lists.{list_end}
use Rattle.rml_syntax.specs.Tree.{command_tree, command_trees, block_trees, block_of, blocks_of}
use Rattle.rml_quantifiers.specs.Quantifiers.{quantifiers_of, quantifiers_of_block, quantifiers_of_blocks}
use Rattle.rml_quantifiers.specs.Branches.{tree-choice}
use Rattle.rml_quantifiers.proofs.Turns.{places_turn}
use Rattle.rml_quantifiers.proofs.blocks.+blocks.Goals as goal

pub add_block_quantifiers-loop-command-preserved : goal.add_block_quantifiers-loop-command-preserved
add_block_quantifiers-loop-command-preserved t c =
    places_turn (λ cs. quantifiers_of_block (block_of (command_trees cs))) (λ x. quantifiers_of (command_tree x))
    c.args.commands.now c.loop-command.command-index c.command-item.result
    c.loop-command.places.items c.add_command_quantifiers.new.places.items _ (λ _ _. refl) c.loop-command-test.true
    c.command-item.is c.in_ok-add_command_quantifiers.ensures c.loop-command.invariant

pub add_command_quantifiers-loop-branch-init : goal.add_command_quantifiers-loop-branch-init
add_command_quantifiers-loop-branch-init t c = refl

pub add_command_quantifiers-loop-branch-preserved : goal.add_command_quantifiers-loop-branch-preserved
add_command_quantifiers-loop-branch-preserved t c =
    places_turn (λ bs. quantifiers_of_blocks (blocks_of (block_trees bs)))
    (λ b. quantifiers_of_block (block_of (command_trees b.items))) c.deref-branch-items.result.now
    c.loop-branch.branch-index c.branch-item.result
    c.loop-branch.places.items c.add_block_quantifiers-in-loop-branch.new.places.items _ (λ _ _. refl)
    c.loop-branch-test.true c.branch-item.is
    (c.in_ok-add_block_quantifiers-in-Choose.ensures
    ∙ ap (λ cs. c.loop-branch.places.items ++ quantifiers_of_block (block_of (command_trees cs)))
    c.deref-in-loop-branch.ensures.value) c.loop-branch.invariant

pub add_command_quantifiers-returns-after-loop-branch : goal.add_command_quantifiers-returns-after-loop-branch
add_command_quantifiers-returns-after-loop-branch t c =
    list_end (λ bs. quantifiers_of_blocks (blocks_of (block_trees bs))) c.deref-branch-items.result.now
    c.loop-branch.branch-index c.loop-branch.places.items _ refl c.loop-branch-test.false c.loop-branch.invariant
    ∙ ap (λ bs. c.args.places.now.items ++ quantifiers_of_blocks (blocks_of (block_trees bs)))
    c.deref-branch-items.ensures.value
    ∙ ap (λ x. c.args.places.now.items ++ quantifiers_of x)
    (sym (tree-choice c.args.command.now c.in-Choose.field-0 c.in-Choose.branches c.in-Choose.is))
