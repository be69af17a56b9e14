use Rattle.std.proofs.Common.{◌≤◌}
use Rattle.std.specs.List.{All}
use Rattle.pool_subst.proofs.memo.Memo.unmade.Given as goal

abbrev pub invariant-loop-after : goal.invariant-loop-after
invariant-loop-after l = record {
  within : l.rest.0 ≤ l.fn.row.0;
  below : All (λ end. end.0 ≤ l.fn.row.0) l.ends.items;
}

abbrev pub decreases-loop-after : goal.decreases-loop-after
decreases-loop-after l = l.rest.0
