-- Items, one after another.
use Rattle.std.proofs.Common.{◌≡◌, ◌+◌, ◌<◌, ◌≤◌, ◌++◌, ℕ, List, length, drop, get_or, None, sym, subst, ap, ◌∙◌}
use Rattle.std.specs.List.{AllByRecursion}
use Rattle.std.proofs.lemmas.List.{drop_all}
use Rattle.base.proofs.Lists.{drop_read}
use Rattle.base.specs.declared.refused.Refused.{Refused}
use Rattle.rml_lex.specs.declared.token.Fault.{Fault}
use Rattle.rml_syntax.specs.declared.tree.Format.{Format}
use Rattle.rml_syntax.specs.declared.tree.Item.{Item}
use Rattle.rml_syntax.specs.Tree.{ItemTree, item_tree, item_trees}
use Rattle.rml_sort_check.specs.Demands.{first_fault}
use Rattle.rml_sort_check.specs.Firsts.{first_right}
use Rattle.rml_items.specs.Items.{Standing, item_demands, with_item, with_items, items_demands}
use Rattle.rml_items.specs.Answered.{Refuses, refuses_as, refuses_left}

-- what is so of all from a place on is so of the item there, and of those behind it
pub all_next : (P : ItemTree → Type 0) (xs : List Item) (i : ℕ) (x : Item) → i < length xs → x ≡ get_or xs i x
    → AllByRecursion P (item_trees (drop i xs))
    → P (item_tree x) × AllByRecursion P (item_trees (drop (i + 1) xs))
all_next P xs i x lt is h = subst (λ l. AllByRecursion P (item_trees l)) (drop_read xs i x lt is) h

module _ (text : List ℕ) (format : Format) (xs : List Item) (i : ℕ) (x : Item) (lt : i < length xs)
    (is : x ≡ get_or xs i x) (from d : Standing)
    (so : first_fault (items_demands text format d (item_trees (drop i xs)))
    ≡ first_fault (items_demands text format from (item_trees xs))) where
  at_place : first_fault (items_demands text format d (item_trees (drop i xs)))
      ≡ first_fault (item_demands text format d (item_tree x)
      ++ items_demands text format (with_item text d (item_tree x)) (item_trees (drop (i + 1) xs)))
  at_place = ap (λ l. first_fault (items_demands text format d (item_trees l))) (drop_read xs i x lt is)

  pub item_refused : (e : Refused Fault) → Refuses (item_demands text format d (item_tree x)) e
      → Refuses (items_demands text format from (item_trees xs)) e
  item_refused e h =
      let front = item_demands text format d (item_tree x) in
      let rest = items_demands text format (with_item text d (item_tree x)) (item_trees (drop (i + 1) xs)) in
      refuses_as (front ++ rest) (items_demands text format from (item_trees xs)) e (sym at_place ∙ so)
      (refuses_left front rest e h)

  pub item_taken : (next : Standing) → next ≡ with_item text d (item_tree x)
      → first_fault (item_demands text format d (item_tree x)) ≡ None
      → first_fault (items_demands text format next (item_trees (drop (i + 1) xs)))
      ≡ first_fault (items_demands text format from (item_trees xs))
  item_taken next same met =
      let front = item_demands text format d (item_tree x) in
      let rest = items_demands text format (with_item text d (item_tree x)) (item_trees (drop (i + 1) xs)) in
      ap (λ (e : Standing). first_fault (items_demands text format e (item_trees (drop (i + 1) xs)))) same
      ∙ sym (first_right front rest met) ∙ sym at_place ∙ so

-- what the items so far declare and the items that are left give what all items give
pub item_built : (text : List ℕ) (xs : List Item) (i : ℕ) (x : Item) (from d next : Standing) → i < length xs
    → x ≡ get_or xs i x → next ≡ with_item text d (item_tree x)
    → with_items text d (item_trees (drop i xs)) ≡ with_items text from (item_trees xs)
    → with_items text next (item_trees (drop (i + 1) xs)) ≡ with_items text from (item_trees xs)
item_built text xs i x from d next lt is same so =
    ap (λ (e : Standing). with_items text e (item_trees (drop (i + 1) xs))) same
    ∙ sym (ap (λ l. with_items text d (item_trees l)) (drop_read xs i x lt is)) ∙ so

-- behind the last item
pub all_built : (text : List ℕ) (xs : List Item) (i : ℕ) (from d : Standing) → length xs ≤ i
    → with_items text d (item_trees (drop i xs)) ≡ with_items text from (item_trees xs)
    → d ≡ with_items text from (item_trees xs)
all_built text xs i from d over so = sym (ap (λ l. with_items text d (item_trees l)) (drop_all i xs over)) ∙ so

pub all_taken : (text : List ℕ) (format : Format) (xs : List Item) (i : ℕ) (from d : Standing) → length xs ≤ i
    → first_fault (items_demands text format d (item_trees (drop i xs)))
    ≡ first_fault (items_demands text format from (item_trees xs))
    → first_fault (items_demands text format from (item_trees xs)) ≡ None
all_taken text format xs i from d over so =
    sym so ∙ ap (λ l. first_fault (items_demands text format d (item_trees l))) (drop_all i xs over)
