use Rattle.std.proofs.Common.{[], sym}
use Rattle.rml_terms.specs.Tree.{expr_trees, exprs_of}
use Rattle.rml_names.specs.Drafts.{words_in}
use Rattle.rml_elaborate.specs.Formulas.{terms_of}
use Rattle.rml_elaborate.proofs.Tuples.{terms_counted}
use Rattle.rml_elaborate.proofs.Extents.{removed}
use Rattle.rml_elaborate.proofs.update_sizes.removal_extent.Goals as goal

pub returns : goal.returns
returns c =
    let text = c.args.text.now in
    let v = words_in c.args.draft.now.declared in
    let bodies = c.args.draft.now.bodies.items in
    let args = c.args.args.now in
    let terms = terms_of text v bodies [] (exprs_of (expr_trees args)) in
    let count = sym (terms_counted text v bodies [] args) in
    removed c.extent_laws.ensures.counts c.args.place _ terms _ _ _ _ _ _ count c.parameters_extent.ensures
    c.over-held.ensures c.tuple_extent.ensures c.over.ensures c.beside.ensures c.over-2.ensures
