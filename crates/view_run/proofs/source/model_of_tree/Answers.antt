-- The tree that was read is that of the model, since a text has one.
use Rattle.rml_syntax.specs.Tree.{file_tree}
use Rattle.view_run.proofs.Faultless.{model_of_tree}
use Rattle.view_run.proofs.source.model_of_tree.Goals as goal

pub returns-clause-right : goal.returns-clause-right
returns-clause-right c =
    (model_of_tree c.one_reading.ensures.tokens c.one_tree_or_fault.ensures.tree c.args.text.now c.args.model.now
    c.requires.model c.requires.tree.0 (file_tree c.args.tree.now) c.requires.tree.1 c.requires.tree.2).right

pub returns-clause-small : goal.returns-clause-small
returns-clause-small c =
    (model_of_tree c.one_reading.ensures.tokens c.one_tree_or_fault.ensures.tree c.args.text.now c.args.model.now
    c.requires.model c.requires.tree.0 (file_tree c.args.tree.now) c.requires.tree.1 c.requires.tree.2).small

pub returns-clause-own : goal.returns-clause-own
returns-clause-own c =
    (model_of_tree c.one_reading.ensures.tokens c.one_tree_or_fault.ensures.tree c.args.text.now c.args.model.now
    c.requires.model c.requires.tree.0 (file_tree c.args.tree.now) c.requires.tree.1 c.requires.tree.2).model
