use Rattle.std.proofs.Common.{◌≡◌, take}
use Rattle.cti_minimise.proofs.extents.sizes.Given as goal

abbrev pub invariant-loop-k : goal.invariant-loop-k
invariant-loop-k l = l.sizes.items ≡ take l.k l.structure.sizes
