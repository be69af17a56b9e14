use Rattle.std.proofs.Common.{length}
use Rattle.told_derived.proofs.derived.+holds_at.Given as goal

abbrev pub decreases-holds_at : goal.decreases-holds_at
decreases-holds_at l = length l.tuple.now
