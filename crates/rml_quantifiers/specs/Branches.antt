-- The tree of a choice. The rule stands here, since every proof that walks the branches of a choice takes it.
use Rattle.std.proofs.Common.{◌≡◌, ℕ, List, sym, ap, ◌∙◌}
use Rattle.std.specs.Global.{Vec}
use Rattle.base.proofs.Lists.{map-map}
use Rattle.rml_syntax.specs.declared.tree.Command.{Command}
use Rattle.rml_syntax.specs.declared.tree.Command.TheVariants as variants
use Rattle.rml_syntax.specs.declared.tree.Command.TheViews.{rolls-Choose}
use Rattle.rml_syntax.specs.declared.tree.Command.TheOpen as opened
use Rattle.rml_syntax.specs.declared.tree.Command.TheFolds.{fold-roll-Command}
use Rattle.rml_syntax.specs.Tree.{CommandTree, command_tree, command_step, Choose, blocks_of, block_trees}

-- a choice of the parser, branch by branch
pub tree-choice : (command : Command) (at : ℕ) (bs : Vec (Vec Command)) → command ≡ variants.Choose at bs
    → command_tree command ≡ Choose at (blocks_of (block_trees bs.items))
tree-choice command at bs is =
    ap command_tree (is ∙ sym (rolls-Choose at bs))
    ∙ fold-roll-Command CommandTree command_step (opened.Choose at bs)
    ∙ ap (λ (bs : List (List CommandTree)). Choose at (blocks_of bs)) (map-map (λ b. b.items) _ bs.items)
