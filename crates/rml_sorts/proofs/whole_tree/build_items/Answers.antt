use Rattle.std.proofs.Common.{◌+◌, drop, length, subst, sym}
use Rattle.rml_syntax.specs.Tree.{item_tree, item_trees}
use Rattle.rml_syntax.specs.Within.{ItemWithin}
use Rattle.rml_syntax.specs.Shape.{ItemNests}
use Rattle.rml_names.specs.Drafts.{DraftTree, draft_in}
use Rattle.rml_items.specs.Answered.{at_err}
use Rattle.rml_sorts.specs.Items.{items_sizes, draft_of}
use Rattle.rml_items.specs.Laws.{HaveMet}
use Rattle.rml_sorts.specs.Sound.{IsSound}
use Rattle.rml_terms.specs.Shape.{max_nesting}
use Rattle.rml_sorts.proofs.Whole.{AreLaws, step}
use Rattle.rml_sorts.proofs.ItemLists.{all_next, met_next, item_refused, item_taken, item_built}
use Rattle.rml_sorts.proofs.whole_tree.build_items.Goals as goal

pub returns-in_err-build_item : goal.returns-in_err-build_item
returns-in_err-build_item c =
    let text = c.args.text.now in
    let xs = c.args.items.now in
    let from = draft_in c.args.draft.now in
    at_err (λ _. draft_in c.build_item.new.draft) c.from_residual.result c.in_err-build_item.field-0.0
    (items_sizes text from (item_trees xs)) (draft_of text from (item_trees xs)) c.from_residual.ensures.1
    (item_refused text xs c.loop-item.item-index c.item-item.result c.loop-item-test.true c.item-item.is from
    (draft_in c.loop-item.draft) c.loop-item.invariant.sizes c.in_err-build_item.field-0.0 c.in_err-build_item.ensures)

pub loop-item-preserved : goal.loop-item-preserved
loop-item-preserved c =
    let text = c.args.text.now in
    let format = c.args.format in
    let xs = c.args.items.now in
    let from = draft_in c.args.draft.now in
    let i = c.loop-item.item-index in
    let x = c.item-item.result in
    let lt = c.loop-item-test.true in
    let is = c.item-item.is in
    let old = draft_in c.loop-item.draft in
    let new = draft_in c.build_item.new.draft in
    let done = c.in_ok-build_item.ensures in
    let shape = all_next (ItemNests max_nesting) xs i x lt is c.loop-item.invariant.shape in
    let met = met_next text xs i x lt is from old format c.loop-item.invariant.met in
    let laws : AreLaws = record {
      fit = c.instance_laws.ensures.fits;
      plain = record { free = c.instance_laws.ensures.quantifier_free; plain = c.instance_laws.ensures.plain };
      sorted = c.sorted_law.ensures;
      met = c.met_law.ensures;
    } in
    record {
      within = (all_next (ItemWithin (length text)) xs i x lt is c.loop-item.invariant.within).1;
      shape = shape.1;
      sound = subst IsSound (sym done.0)
          (step laws text format old (item_tree x) c.loop-item.invariant.sound shape.0 met.0 met.1);
      met = subst (λ (e : DraftTree). HaveMet text format e.vocabulary (item_trees (drop (i + 1) xs))) (sym done.0) met.2;
      sizes = item_taken text xs i x lt is from old c.loop-item.invariant.sizes new done.0 done.1;
      built = item_built text xs i x lt is from old new done.0 c.loop-item.invariant.built;
    }

pub build_item-requires : goal.build_item-requires
build_item-requires c =
    let text = c.args.text.now in
    let xs = c.args.items.now in
    let i = c.loop-item.item-index in
    let x = c.item-item.result in
    let lt = c.loop-item-test.true in
    let is = c.item-item.is in
    let met = met_next text xs i x lt is (draft_in c.args.draft.now) (draft_in c.loop-item.draft) c.args.format
    c.loop-item.invariant.met in
    record {
      nests = (all_next (ItemNests max_nesting) xs i x lt is c.loop-item.invariant.shape).0;
      within = (all_next (ItemWithin (length text)) xs i x lt is c.loop-item.invariant.within).0;
      sound = c.loop-item.invariant.sound;
      head = met.0;
      met = met.1;
    }
