use Rattle.std.proofs.Common.{sym, ◌∙◌}
use Rattle.rml_terms.specs.Tree.{expr_tree}
use Rattle.rml_names.specs.Drafts.{words_in}
use Rattle.rml_items.proofs.Sorted.{parameters_few}
use Rattle.rml_items.proofs.items.judge_definition.Goals as goal

pub add_definition-requires-clause-few : goal.add_definition-requires-clause-few
add_definition-requires-clause-few c =
    parameters_few c.args.text.now (words_in c.args.known.now) c.args.parameters.now (expr_tree c.args.value.now)
    (sym c.definition_fault.ensures ∙ c.in_default-definition_fault.is)
