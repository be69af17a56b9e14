use Rattle.std.proofs.Common.{[], ap, ◌∙◌}
use Rattle.std.specs.Option.{option_or}
use Rattle.rml_terms.specs.Tree.{expr_tree, expr_trees, exprs_of}
use Rattle.rml_names.specs.Drafts.{words_in}
use Rattle.rml_elaborate.specs.Formulas.{term_of, terms_of}
use Rattle.rml_elaborate.specs.Sizes.{first_use_in_each}
use Rattle.rml_elaborate.specs.Updates.{right_of_placement}
use Rattle.rml_elaborate.proofs.Extents.{told_term}
use Rattle.rml_elaborate.proofs.large.placement_use.Goals as goal

pub returns : goal.returns
returns c =
    let text = c.args.text.now in
    let v = words_in c.args.draft.now.declared in
    let bodies = c.args.draft.now.bodies.items in
    let args = exprs_of (expr_trees c.args.args.now) in
    let value = expr_tree c.args.value.now in
    told_term c.extent_laws.ensures.counts
    (right_of_placement c.args.symbol (terms_of text v bodies [] args) (term_of text v bodies [] value))
    c.placement_extent.result _ _ _ c.placement_extent.ensures
    (c.or-place.ensures
    ∙ ap (λ z. option_or z c.first_use_outside.result) c.first_use_in_each_outside-inside.ensures
    ∙ ap (option_or (first_use_in_each text v [] args)) c.first_use_outside.ensures) c.where_large.ensures
