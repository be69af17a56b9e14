use Rattle.std.proofs.Common.{[]}
use Rattle.rml_terms.specs.Tree.{expr_trees, exprs_of}
use Rattle.rml_names.specs.Drafts.{words_in}
use Rattle.rml_elaborate.specs.Formulas.{terms_of}
use Rattle.rml_elaborate.specs.Updates.{right_of_removal}
use Rattle.rml_elaborate.proofs.Extents.{told_form}
use Rattle.rml_elaborate.proofs.large.removal_use.Goals as goal

pub returns : goal.returns
returns c =
    let terms = terms_of c.args.text.now (words_in c.args.draft.now.declared) c.args.draft.now.bodies.items []
    (exprs_of (expr_trees c.args.args.now)) in
    told_form c.extent_laws.ensures.counts (right_of_removal c.args.symbol terms) c.removal_extent.result _ _ _
    c.removal_extent.ensures c.first_use_in_each_outside-inside.ensures c.where_large.ensures
