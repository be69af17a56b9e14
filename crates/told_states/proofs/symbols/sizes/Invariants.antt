use Rattle.std.proofs.Common.{◌≡◌, take}
use Rattle.told_states.proofs.symbols.sizes.Given as goal

abbrev pub invariant-loop-sort : goal.invariant-loop-sort
invariant-loop-sort l = l.sizes.items ≡ take l.sort l.structure.sizes
