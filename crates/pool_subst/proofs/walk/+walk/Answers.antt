use Rattle.std.proofs.Common.{◌<◌, ◌-◌, length, sym, subst, ◌∙◌, arith}
use Rattle.pool_subst.specs.Memos.{AreRight}
use Rattle.fol_pool.specs.Trees.{tree_at}
use Rattle.fol_pool.specs.Shapes.{tree_of}
use Rattle.fol_pool.specs.Growing.{stays_below, grows_on}
use Rattle.pool_subst.specs.Memos.{right_grows}
use Rattle.pool_subst.proofs.Walking.{right_along, made_along, made_whole, noted_right}
use Rattle.pool_subst.proofs.Walking.{both_below, end_below, choice}
use Rattle.std.proofs.Math.Nat.{le-max_right}
use Rattle.pool_subst.proofs.walk.+walk.Goals as goal

pub change-returns-in-Some-clause-node : goal.change-returns-in-Some-clause-node
change-returns-in-Some-clause-node g t c =
    let right = c.requires.right c.args.at.0 c.args.depth c.in-Some.made (sym c.find.ensures ∙ c.in-Some.is) in right.1

pub change-returns-in_err-made-clause-right : goal.change-returns-in_err-made-clause-right
change-returns-in_err-made-clause-right g t c =
    let rules = g.R.NodeRules.becomes c.args.rules.now c.args.pool.now in
    right_grows rules c.change_parts.new.pool c.change_top.new.pool c.change_parts.new.memo c.change_top.ensures.grows
    c.change_parts.ensures.right

pub change-returns-in_err-note-clause-right : goal.change-returns-in_err-note-clause-right
change-returns-in_err-note-clause-right g t c =
    let rules = g.R.NodeRules.becomes c.args.rules.now c.args.pool.now in
    subst (AreRight rules c.change_top.new.pool) (sym c.in_err-note.ensures.same)
    (right_grows rules c.change_parts.new.pool c.change_top.new.pool c.change_parts.new.memo c.change_top.ensures.grows
    c.change_parts.ensures.right)

pub change-returns-clause-node : goal.change-returns-clause-node
change-returns-clause-node g t c =
    let says = g.R.NodeRules.becomes c.args.rules.now in
    let start = c.args.pool.now in
    let now = c.change_parts.new.pool in
    let same = g.met.R.NodeRules.stays c.args.rules.now start now c.requires.stands c.change_parts.ensures.grows in
    made_whole (says now) (says start) c.change_top.new.pool c.args.depth c.in_ok-made.made.0
    (tree_of now c.in_ok-shape.shape) (tree_at start c.args.at.0) same.1 c.in_ok-shape.ensures.tree
    c.in_ok-made.ensures.node

pub change-returns-clause-right : goal.change-returns-clause-right
change-returns-clause-right g t c =
    let says = g.R.NodeRules.becomes c.args.rules.now in
    let start = c.args.pool.now in
    let now = c.change_parts.new.pool in
    let new = c.change_top.new.pool in
    let memo = c.change_parts.new.memo in
    let same = g.met.R.NodeRules.stays c.args.rules.now start now c.requires.stands c.change_parts.ensures.grows in
    let grows = c.change_top.ensures.grows in
    noted_right (says start) start new memo c.note.new.self c.args.at c.args.depth c.in_ok-made.made
    (grows_on start now new c.change_parts.ensures.grows grows)
    (right_grows (says start) now new memo grows c.change_parts.ensures.right) c.requires.there
    (made_whole (says now) (says start) new c.args.depth c.in_ok-made.made.0 (tree_of now c.in_ok-shape.shape)
    (tree_at start c.args.at.0) same.1 c.in_ok-shape.ensures.tree c.in_ok-made.ensures.node)
    c.in_ok-note.ensures.noted

pub change_parts-change_two-requires-in-Ite : goal.change_parts-change_two-requires-in-Ite
change_parts-change_two-requires-in-Ite g t c κs within =
    let rules = c.args.rules.now in
    let says = g.R.NodeRules.becomes rules in
    let start = c.args.pool.now in
    let one = c.change-in-Ite.new.pool in
    let grows = c.change-in-Ite.ensures.grows in
    let same = g.met.R.NodeRules.stays rules start one c.requires.stands grows in
    let parts = c.in-Ite.ensures.parts in
    let below = c.in-Ite.ensures.below in (
      omega (arith, c.decreases, both_below c.in-Ite.a.0 c.in-Ite.b.0 c.args.at.0 below.1 below.2),
      (
        within,
        (
          same.0,
          (
            stays_below start one grows c.in-Ite.a.0 parts.1.0,
            (
              stays_below start one grows c.in-Ite.b.0 parts.2.0,
              right_along (says start) (says one) one
                  c.change-in-Ite.new.memo (sym same.1) c.change-in-Ite.ensures.right,
            ),
          ),
        ),
      ),
    )

pub change_parts-returns-in_err-a-in-Ite-clause-right :
    goal.change_parts-returns-in_err-a-in-Ite-clause-right
change_parts-returns-in_err-a-in-Ite-clause-right g t c =
    let rules = c.args.rules.now in
    let says = g.R.NodeRules.becomes rules in
    let same = g.met.R.NodeRules.stays rules c.args.pool.now c.change-in-Ite.new.pool c.requires.stands
    c.change-in-Ite.ensures.grows in
    right_along (says c.change-in-Ite.new.pool) (says c.args.pool.now) c.change_two-in-Ite.new.pool
    c.change_two-in-Ite.new.memo same.1 c.change_two-in-Ite.ensures.right

pub change_parts-returns-in_ok-a-in-Ite-clause-tree :
    goal.change_parts-returns-in_ok-a-in-Ite-clause-tree
change_parts-returns-in_ok-a-in-Ite-clause-tree g t c =
    let says = g.R.NodeRules.becomes c.args.rules.now in
    let start = c.args.pool.now in
    let now = c.change-in-Ite.new.pool in
    let w = c.in-Ite in
    let both = c.in_ok-a-in-Ite in
    let grows = c.change-in-Ite.ensures.grows in
    let same = g.met.R.NodeRules.stays c.args.rules.now start now c.requires.stands grows in
    choice (says now) (says start) start now c.change_two-in-Ite.new.pool c.args.depth w.p w.a w.b c.in_ok-p-in-Ite.p
    both.a both.b (tree_at start c.args.at.0) same.1 grows c.change_two-in-Ite.ensures.grows w.ensures.parts.0
    w.ensures.parts.1 w.ensures.parts.2 c.in_ok-p-in-Ite.ensures.node both.ensures.first both.ensures.second
    w.ensures.tree

pub change_parts-returns-in_ok-a-in-Ite-clause-right :
    goal.change_parts-returns-in_ok-a-in-Ite-clause-right
change_parts-returns-in_ok-a-in-Ite-clause-right g t c =
    let rules = c.args.rules.now in
    let says = g.R.NodeRules.becomes rules in
    let same = g.met.R.NodeRules.stays rules c.args.pool.now c.change-in-Ite.new.pool c.requires.stands
    c.change-in-Ite.ensures.grows in
    right_along (says c.change-in-Ite.new.pool) (says c.args.pool.now) c.change_two-in-Ite.new.pool
    c.change_two-in-Ite.new.memo same.1 c.change_two-in-Ite.ensures.right

pub change_two-change-requires-2 : goal.change_two-change-requires-2
change_two-change-requires-2 g t c κs within =
    let rules = c.args.rules.now in
    let says = g.R.NodeRules.becomes rules in
    let one = c.change.new.pool in
    let same = g.met.R.NodeRules.stays rules c.args.pool.now one c.requires.stands c.change.ensures.grows in (
      omega (arith, c.decreases, le-max_right c.args.first.0 c.args.second.0),
      (
        within,
        (
          same.0,
          (
            stays_below c.args.pool.now one c.change.ensures.grows c.args.second.0
                c.requires.second,
            right_along (says c.args.pool.now) (says one) one c.change.new.memo (sym same.1)
                c.change.ensures.right,
          ),
        ),
      ),
    )

pub change_two-returns-in_err-two-clause-right : goal.change_two-returns-in_err-two-clause-right
change_two-returns-in_err-two-clause-right g t c =
    let rules = c.args.rules.now in
    let says = g.R.NodeRules.becomes rules in
    let same = g.met.R.NodeRules.stays rules c.args.pool.now c.change.new.pool c.requires.stands
    c.change.ensures.grows in
    right_along (says c.change.new.pool) (says c.args.pool.now) c.change-2.new.pool c.change-2.new.memo same.1
    c.change-2.ensures.right

pub change_two-returns-clause-second : goal.change_two-returns-clause-second
change_two-returns-clause-second g t c =
    let rules = c.args.rules.now in
    let says = g.R.NodeRules.becomes rules in
    let start = c.args.pool.now in
    let now = c.change.new.pool in
    let grows = c.change.ensures.grows in
    let same = g.met.R.NodeRules.stays rules start now c.requires.stands grows in
    made_along (says now) (says start) start now c.change-2.new.pool c.args.depth c.args.second.0
    c.in_ok-two.two.0 same.1 grows c.requires.second c.in_ok-two.ensures.node

pub change_two-returns-clause-right : goal.change_two-returns-clause-right
change_two-returns-clause-right g t c =
    let rules = c.args.rules.now in
    let says = g.R.NodeRules.becomes rules in
    let same = g.met.R.NodeRules.stays rules c.args.pool.now c.change.new.pool c.requires.stands
    c.change.ensures.grows in
    right_along (says c.change.new.pool) (says c.args.pool.now) c.change-2.new.pool c.change-2.new.memo same.1
    c.change-2.ensures.right

pub change_row-change-requires : goal.change_row-change-requires
change_row-change-requires g t c κs within =
    let rules = c.args.rules.now in
    let says = g.R.NodeRules.becomes rules in
    let start = c.args.pool.now in
    let now = c.loop-i.pool in
    let h = c.loop-i.invariant in
    let same = g.met.R.NodeRules.stays rules start now c.requires.stands h.grows in
    let end = c.index.result.now in
    let ends = c.in_ok-ends.ends in
    let lt : c.loop-i.i - 1 < length ends.items = omega (arith, ends.ok.0, c.len-i.ensures) in
    let most = end_below ends.items (c.loop-i.i - 1) c.args.row.0 end c.in_ok-ends.ensures lt c.index.ensures in
    let there : end.0 < length start = omega (arith, most, c.requires.there) in (
      omega (arith, c.decreases, most),
      (
        within,
        (
          same.0,
          (
            stays_below start now h.grows end.0 there,
            right_along (says start) (says now) now c.loop-i.memo
                (sym same.1) h.right,
          ),
        ),
      ),
    )

pub change_row-loop-i-preserved : goal.change_row-loop-i-preserved
change_row-loop-i-preserved g t c =
    let rules = c.args.rules.now in
    let says = g.R.NodeRules.becomes rules in
    let start = c.args.pool.now in
    let now = c.loop-i.pool in
    let grows = c.loop-i.invariant.grows in
    let same = g.met.R.NodeRules.stays rules start now c.requires.stands grows in
    record {
      grows = grows_on start now c.change.new.pool grows c.change.ensures.grows;
      right = right_along (says now) (says start) c.change.new.pool c.change.new.memo same.1 c.change.ensures.right;
    }

pub change_row-returns-in_err-change-clause-right : goal.change_row-returns-in_err-change-clause-right
change_row-returns-in_err-change-clause-right g t c =
    let rules = c.args.rules.now in
    let says = g.R.NodeRules.becomes rules in
    let same = g.met.R.NodeRules.stays rules c.args.pool.now c.loop-i.pool c.requires.stands c.loop-i.invariant.grows in
    right_along (says c.loop-i.pool) (says c.args.pool.now) c.change.new.pool c.change.new.memo same.1
    c.change.ensures.right

pub change_row-change-requires-2 : goal.change_row-change-requires-2
change_row-change-requires-2 g t c κs within =
    let rules = c.args.rules.now in
    let says = g.R.NodeRules.becomes rules in
    let start = c.args.pool.now in
    let now = c.loop-i.pool in
    let h = c.loop-i.invariant in
    let same = g.met.R.NodeRules.stays rules start now c.requires.stands h.grows in (
      omega (arith, c.decreases),
      (
        within,
        (
          same.0,
          (
            stays_below start now h.grows c.args.row.0 c.requires.there,
            right_along (says start) (says now) now c.loop-i.memo (sym same.1) h.right,
          ),
        ),
      ),
    )

pub change_row-returns-in_err-node-clause-right : goal.change_row-returns-in_err-node-clause-right
change_row-returns-in_err-node-clause-right g t c =
    let rules = c.args.rules.now in
    let says = g.R.NodeRules.becomes rules in
    let same = g.met.R.NodeRules.stays rules c.args.pool.now c.loop-i.pool c.requires.stands c.loop-i.invariant.grows in
    right_along (says c.loop-i.pool) (says c.args.pool.now) c.change-2.new.pool c.change-2.new.memo same.1
    c.change-2.ensures.right

pub change_row-returns-clause-node : goal.change_row-returns-clause-node
change_row-returns-clause-node g t c =
    let rules = c.args.rules.now in
    let says = g.R.NodeRules.becomes rules in
    let start = c.args.pool.now in
    let now = c.loop-i.pool in
    let grows = c.loop-i.invariant.grows in
    let same = g.met.R.NodeRules.stays rules start now c.requires.stands grows in
    made_along (says now) (says start) start now c.change-2.new.pool c.args.depth c.args.row.0 c.in_ok-node.node.0
    same.1 grows c.requires.there c.in_ok-node.ensures.node

pub change_row-returns-clause-right : goal.change_row-returns-clause-right
change_row-returns-clause-right g t c =
    let rules = c.args.rules.now in
    let says = g.R.NodeRules.becomes rules in
    let same = g.met.R.NodeRules.stays rules c.args.pool.now c.loop-i.pool c.requires.stands c.loop-i.invariant.grows in
    right_along (says c.loop-i.pool) (says c.args.pool.now) c.change-2.new.pool c.change-2.new.memo same.1
    c.change-2.ensures.right
