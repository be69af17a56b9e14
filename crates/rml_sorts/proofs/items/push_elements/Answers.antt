use Rattle.std.proofs.Common.{◌++◌}
use Rattle.rml_terms.specs.Places.{name_places}
use Rattle.rml_names.specs.Drafts.{draft_in}
use Rattle.rml_sorts.proofs.ItemLists.{with_functions, element_placed, elements_placed}
use Rattle.rml_sorts.proofs.items.push_elements.Goals as goal

pub loop-name-preserved : goal.loop-name-preserved
loop-name-preserved c =
    let from = draft_in c.args.draft.now in
    element_placed c.args.names.now c.loop-name.name-index (record { start = 0; end = 0 }) (draft_in c.loop-name.draft)
    (draft_in c.push_function.new.self)
    (with_functions from (from.places.functions ++ name_places c.args.names.now)) c.loop-name-test.true
    c.in_ok-push_function.ensures c.loop-name.invariant

pub returns : goal.returns
returns c =
    let from = draft_in c.args.draft.now in
    elements_placed c.args.names.now c.loop-name.name-index (draft_in c.loop-name.draft)
    (with_functions from (from.places.functions ++ name_places c.args.names.now)) c.loop-name-test.false
    c.loop-name.invariant
