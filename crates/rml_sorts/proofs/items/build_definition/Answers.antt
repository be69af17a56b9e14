use Rattle.rml_terms.specs.Tree.{expr_tree}
use Rattle.rml_syntax.specs.declared.tree.Format.TheVariants as format
use Rattle.rml_names.specs.Drafts.{draft_in}
use Rattle.rml_sorts.proofs.ItemLists.{parameters_few}
use Rattle.rml_sorts.proofs.items.build_definition.Goals as goal

pub large_use_in_definition-requires-clause-few : goal.large_use_in_definition-requires-clause-few
large_use_in_definition-requires-clause-few c =
    parameters_few c.sorted_law.ensures c.args.text.now format.Two (draft_in c.args.draft.now).vocabulary c.args.name
    c.args.parameters.now (expr_tree c.args.value.now) c.requires.sound.words c.requires.head c.requires.met

pub definition-requires-clause-few : goal.definition-requires-clause-few
definition-requires-clause-few c =
    parameters_few c.sorted_law.ensures c.args.text.now format.Two (draft_in c.args.draft.now).vocabulary c.args.name
    c.args.parameters.now (expr_tree c.args.value.now) c.requires.sound.words c.requires.head c.requires.met

pub add_definition-requires-clause-few : goal.add_definition-requires-clause-few
add_definition-requires-clause-few c =
    parameters_few c.sorted_law.ensures c.args.text.now format.Two (draft_in c.args.draft.now).vocabulary c.args.name
    c.args.parameters.now (expr_tree c.args.value.now) c.requires.sound.words c.requires.head c.requires.met
