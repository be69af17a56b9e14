use Rattle.std.proofs.Common.{◌≡◌, List, Some, length, sym, subst}
use Rattle.base.specs.Because.{Because}
use Rattle.rml_lex.specs.Tokens.{StandsBy}
use Rattle.rml_syntax.specs.declared.tree.Item.{Item}
use Rattle.rml_syntax.specs.Tree.{file_tree, item_trees}
use Rattle.rml_names.specs.Drafts.{DraftTree, draft_in, empty_draft}
use Rattle.rml_sort_check.specs.Demands.{first_fault}
use Rattle.rml_items.specs.Answered.{because_first}
use Rattle.rml_items.specs.Laws.{HaveMet}
use Rattle.rml_sorts.specs.Items.{items_sizes}
use Rattle.rml_sorts.proofs.whole_tree.draft_model.Goals as goal

pub build_items-requires-clause-met : goal.build_items-requires-clause-met
build_items-requires-clause-met c =
    let text = c.args.text.now in
    let tree = c.args.tree.now in
    subst (λ xs. HaveMet text tree.format (draft_in c.new-draft.result).vocabulary (item_trees xs)) (sym c.deref.ensures.value)
    (subst (λ (d : DraftTree). HaveMet text tree.format d.vocabulary (item_trees tree.items.items)) (sym c.new-draft.ensures)
    (c.met_law.ensures text (file_tree tree) c.requires.met))

pub returns-in-Err-clause-place : goal.returns-in-Err-clause-place
returns-in-Err-clause-place c =
    let text = c.args.text.now in
    let tree = file_tree c.args.tree.now in
    let refused = c.in-Err.refused in
    let here = subst
    (λ (d : DraftTree). Because (λ f. first_fault (items_sizes text d (item_trees c.deref.result.now)) ≡ Some f) refused)
    c.new-draft.ensures c.in-Err.ensures in
    because_first (StandsBy (length text)) (items_sizes text empty_draft tree.items) refused
    (λ f is. c.size_fault_law.ensures text (length text) tree f c.requires.within is)
    (subst (λ (xs : List Item). Because (λ f. first_fault (items_sizes text empty_draft (item_trees xs)) ≡ Some f) refused)
    c.deref.ensures.value here)
