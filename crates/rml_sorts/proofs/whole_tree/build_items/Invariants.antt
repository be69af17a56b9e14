use Rattle.std.proofs.Common.{◌≡◌, drop, length}
use Rattle.std.specs.List.{AllByRecursion}
use Rattle.rml_syntax.specs.Tree.{item_trees}
use Rattle.rml_syntax.specs.Within.{ItemWithin}
use Rattle.rml_syntax.specs.Shape.{ItemNests}
use Rattle.rml_names.specs.Drafts.{draft_in}
use Rattle.rml_sort_check.specs.Demands.{first_fault}
use Rattle.rml_sorts.specs.Items.{items_sizes, draft_of}
use Rattle.rml_items.specs.Laws.{HaveMet}
use Rattle.rml_sorts.specs.Sound.{IsSound}
use Rattle.rml_terms.specs.Shape.{max_nesting}
use Rattle.rml_sorts.proofs.whole_tree.build_items.Given as goal

abbrev pub invariant-loop-item : goal.invariant-loop-item
invariant-loop-item l = record {
  within : AllByRecursion (ItemWithin (length l.text)) (item_trees (drop l.item-index l.items));
  shape : AllByRecursion (ItemNests max_nesting) (item_trees (drop l.item-index l.items));
  sound : IsSound (draft_in l.draft);
  met : HaveMet l.text l.format (draft_in l.draft).vocabulary (item_trees (drop l.item-index l.items));
  sizes : first_fault (items_sizes l.text (draft_in l.draft) (item_trees (drop l.item-index l.items)))
      ≡ first_fault (items_sizes l.text (draft_in l.fn.draft) (item_trees l.items));
  built : draft_of l.text (draft_in l.draft) (item_trees (drop l.item-index l.items))
      ≡ draft_of l.text (draft_in l.fn.draft) (item_trees l.items);
}
