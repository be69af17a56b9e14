use Rattle.std.proofs.Common.{◌≡◌, take}
use Rattle.cti_minimise.proofs.extents.extent.Given as goal

abbrev pub invariant-loop-size : goal.invariant-loop-size
invariant-loop-size l = l.numbers.items ≡ take l.size-index l.size-items
