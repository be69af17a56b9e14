-- Where a tree has no fault of names and sorts, the demands of each of its items are met.
use Rattle.std.proofs.Common.{◌≡◌, ◌++◌, ℕ, List, [], ◌∷◌, None}
use Rattle.rml_syntax.specs.declared.tree.Format.{Format}
use Rattle.rml_syntax.specs.Tree.{ItemTree}
use Rattle.rml_sort_check.specs.Demands.{first_fault}
use Rattle.rml_sort_check.specs.Firsts.{met_left, met_right}
use Rattle.rml_items.specs.Items.{Standing, no_items, head_demands, once_demands, body_demands, item_demands}
use Rattle.rml_items.specs.Items.{items_demands, with_item}
use Rattle.rml_items.specs.Laws.{HaveMet, DemandsAreMet}

-- where no demand of a tree is left, those of each item are met
pub have_met : (text : List ℕ) (format : Format) (items : List ItemTree) (d : Standing)
    → first_fault (items_demands text format d items) ≡ None → HaveMet text format d.words items
have_met text format [] d h = tt
have_met text format (item ∷ items) d h =
    let front = item_demands text format d item in
    let rest = items_demands text format (with_item text d item) items in
    let here = met_left front rest h in
    let more = once_demands text d item ++ body_demands text format d.words item in (
      met_left (head_demands text d.words item) more here,
      met_right (once_demands text d item) (body_demands text format d.words item)
          (met_right (head_demands text d.words item) more here),
      have_met text format items (with_item text d item) (met_right front rest h),
    )

pub demands_are_met : DemandsAreMet
demands_are_met text tree h = have_met text tree.format tree.items no_items h
