use Rattle.std.proofs.Common.{◌+◌, ◌*◌, max}
use Rattle.fol_pool.specs.Trees.{Grows}
use Rattle.pool_subst.specs.Memos.{AreRight}
use Rattle.pool_subst.proofs.walk.+walk.Given as goal

-- A part has a smaller number. At one number what is made of the node stands above what is made of its parts, and what
-- calls for the node stands above both.
abbrev pub decreases-change : goal.decreases-change
decreases-change g l = 3 * l.at.0 + 1

abbrev pub decreases-change_parts : goal.decreases-change_parts
decreases-change_parts g l = 3 * l.at.0

abbrev pub decreases-change_under : goal.decreases-change_under
decreases-change_under g l = 3 * l.at.0 + 2

abbrev pub decreases-change_two : goal.decreases-change_two
decreases-change_two g l = 3 * max l.first.0 l.second.0 + 2

abbrev pub decreases-change_row : goal.decreases-change_row
decreases-change_row g l = 3 * l.row.0 + 2

abbrev pub invariant-change_row-loop-i : goal.invariant-change_row-loop-i
invariant-change_row-loop-i g l = record {
  grows : Grows l.fn.pool l.pool;
  right : AreRight (g.R.NodeRules.becomes l.rules l.fn.pool) l.pool l.memo;
}
