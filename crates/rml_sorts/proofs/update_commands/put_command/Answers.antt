use Rattle.rml_terms.specs.Tree.{expr_tree}
use Rattle.rml_names.specs.Drafts.{draft_in}
use Rattle.rml_sorts.proofs.Few.{few_for_put}
use Rattle.rml_sorts.proofs.update_commands.put_command.Goals as goal

pub large_use_in_placement-requires-clause-few : goal.large_use_in_placement-requires-clause-few
large_use_in_placement-requires-clause-few c =
    few_for_put c.args.text.now (draft_in c.args.draft.now).vocabulary c.requires.sound.words c.args.name
    c.args.args.now (expr_tree c.args.value.now) c.requires.met

pub placement-requires-clause-few : goal.placement-requires-clause-few
placement-requires-clause-few c =
    few_for_put c.args.text.now (draft_in c.args.draft.now).vocabulary c.requires.sound.words c.args.name
    c.args.args.now (expr_tree c.args.value.now) c.requires.met
