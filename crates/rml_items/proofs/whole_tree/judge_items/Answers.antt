use Rattle.std.proofs.Common.{length, subst, sym}
use Rattle.rml_syntax.specs.Tree.{item_tree, item_trees}
use Rattle.rml_syntax.specs.Within.{ItemWithin}
use Rattle.rml_syntax.specs.Shape.{ItemNests}
use Rattle.rml_names.specs.Sound.{IsSorted}
use Rattle.rml_items.specs.Items.{Standing, items_demands, with_items}
use Rattle.rml_items.specs.Progress.{standing_of}
use Rattle.rml_items.specs.Answered.{at_err}
use Rattle.rml_terms.specs.Shape.{max_nesting}
use Rattle.rml_items.proofs.Sorted.{item_sorted}
use Rattle.rml_items.proofs.ItemLists.{all_next, item_refused, item_taken, item_built, all_built, all_taken}
use Rattle.rml_items.proofs.whole_tree.judge_items.Goals as goal

pub returns-in_err-judge_item : goal.returns-in_err-judge_item
returns-in_err-judge_item c =
    let text = c.args.text.now in
    let format = c.args.format in
    let xs = c.args.items.now in
    let from = standing_of c.args.progress.now in
    at_err (λ _. standing_of c.judge_item.new.progress) c.from_residual.result c.in_err-judge_item.field-0.0
    (items_demands text format from (item_trees xs)) (with_items text from (item_trees xs)) c.from_residual.ensures.1
    (item_refused text format xs c.loop-item.item-index c.item-item.result c.loop-item-test.true c.item-item.is from
    (standing_of c.loop-item.progress) c.loop-item.invariant.demands c.in_err-judge_item.field-0.0
    c.in_err-judge_item.ensures)

pub loop-item-preserved : goal.loop-item-preserved
loop-item-preserved c =
    let text = c.args.text.now in
    let format = c.args.format in
    let xs = c.args.items.now in
    let from = standing_of c.args.progress.now in
    let i = c.loop-item.item-index in
    let x = c.item-item.result in
    let lt = c.loop-item-test.true in
    let is = c.item-item.is in
    let old = standing_of c.loop-item.progress in
    let new = standing_of c.judge_item.new.progress in
    let done = c.in_ok-judge_item.ensures in
    record {
      within = (all_next (ItemWithin (length text)) xs i x lt is c.loop-item.invariant.within).1;
      shape = (all_next (ItemNests max_nesting) xs i x lt is c.loop-item.invariant.shape).1;
      sound = subst (λ (e : Standing). IsSorted e.words) (sym done.0)
          (item_sorted text format old (item_tree x) c.loop-item.invariant.sound done.1);
      demands = item_taken text format xs i x lt is from old c.loop-item.invariant.demands new done.0 done.1;
      built = item_built text xs i x from old new lt is done.0 c.loop-item.invariant.built;
    }
