use Rattle.std.proofs.Common.{List, ap, sym, ◌∙◌}
use Rattle.base.proofs.Lists.{map-map}
use Rattle.rml_syntax.specs.declared.tree.Command.TheViews.{rolls-Choose}
use Rattle.rml_syntax.specs.declared.tree.Command.TheOpen.{Choose}
use Rattle.rml_syntax.specs.declared.tree.Command.TheFolds.{fold-roll-Command}
use Rattle.rml_syntax.specs.Tree.{CommandTree, command_tree, command_step, Choose as Chosen, blocks_of}
use Rattle.rml_syntax.proofs.commands.choice_of.Goals as goal

pub returns : goal.returns
returns c =
    ap command_tree (sym (rolls-Choose c.args.word.start c.args.blocks))
    ∙ fold-roll-Command CommandTree command_step (Choose c.args.word.start c.args.blocks)
    ∙ ap (λ (bs : List (List CommandTree)). Chosen c.args.word.start (blocks_of bs))
    (map-map (λ b. b.items) _ c.args.blocks.items)
