use Rattle.std.proofs.Common.{◌≡◌, length}
use Rattle.pool_size.specs.Counted.{AreRight}
use Rattle.pool_size.specs.Instances.{IsMeasured}
use Rattle.pool_size.proofs.instance.instance_nodes.Given as goal

abbrev pub invariant-loop-i : goal.invariant-loop-i
invariant-loop-i l = record {
  count : length l.table.items ≡ l.i;
  right : AreRight (IsMeasured l.counts) l.pool l.table.items;
}
