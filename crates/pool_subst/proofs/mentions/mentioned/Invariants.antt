use Rattle.std.proofs.Common.{◌≡◌, length}
use Rattle.pool_subst.specs.Mentions.{replaced, TellsOf}
use Rattle.pool_subst.proofs.mentions.mentioned.Given as goal

abbrev pub invariant-loop-i : goal.invariant-loop-i
invariant-loop-i l = record {
  count : length l.table.items ≡ l.i;
  tells : TellsOf (replaced l.change) l.pool l.table.items;
}
