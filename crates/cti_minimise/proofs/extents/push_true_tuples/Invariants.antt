use Rattle.std.proofs.Common.{◌≡◌, ◌++◌, map, take}
use Rattle.cti_minimise.specs.Extents.{true_tuples}
use Rattle.cti_minimise.proofs.extents.push_true_tuples.Given as goal

abbrev pub invariant-loop-r : goal.invariant-loop-r
invariant-loop-r l =
    l.numbers.items ≡ l.initial.numbers.items ++ map (true_tuples l.structure.sizes) (take l.r l.structure.relations)
