use Rattle.std.proofs.Common.{◌≡◌, drop, length}
use Rattle.std.specs.List.{AllByRecursion}
use Rattle.rml_syntax.specs.Tree.{item_trees}
use Rattle.rml_syntax.specs.Within.{ItemWithin}
use Rattle.rml_syntax.specs.Shape.{ItemNests}
use Rattle.rml_sort_check.specs.Demands.{first_fault}
use Rattle.rml_names.specs.Sound.{IsSorted}
use Rattle.rml_items.specs.Items.{items_demands, with_items}
use Rattle.rml_items.specs.Progress.{standing_of}
use Rattle.rml_terms.specs.Shape.{max_nesting}
use Rattle.rml_items.proofs.whole_tree.judge_items.Given as goal

abbrev pub invariant-loop-item : goal.invariant-loop-item
invariant-loop-item l = record {
  within : AllByRecursion (ItemWithin (length l.text)) (item_trees (drop l.item-index l.items));
  shape : AllByRecursion (ItemNests max_nesting) (item_trees (drop l.item-index l.items));
  sound : IsSorted (standing_of l.progress).words;
  demands : first_fault (items_demands l.text l.format (standing_of l.progress) (item_trees (drop l.item-index l.items)))
      ≡ first_fault (items_demands l.text l.format (standing_of l.fn.progress) (item_trees l.items));
  built : with_items l.text (standing_of l.progress) (item_trees (drop l.item-index l.items))
      ≡ with_items l.text (standing_of l.fn.progress) (item_trees l.items);
}
