use Rattle.std.proofs.Common.{◌≡◌, ◌++◌, drop}
use Rattle.rml_terms.specs.Places.{name_places}
use Rattle.rml_names.specs.Drafts.{draft_in}
use Rattle.rml_sorts.proofs.ItemLists.{with_functions}
use Rattle.rml_sorts.proofs.items.push_elements.Given as goal

abbrev pub invariant-loop-name : goal.invariant-loop-name
invariant-loop-name l =
    with_functions (draft_in l.draft) ((draft_in l.draft).places.functions ++ name_places (drop l.name-index l.names))
    ≡ with_functions (draft_in l.fn.draft) ((draft_in l.fn.draft).places.functions ++ name_places l.names)
