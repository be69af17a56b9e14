use Rattle.std.proofs.Common.{take}
use Rattle.cti_minimise.specs.Extents.{extent}
use Rattle.cti_minimise.specs.Steps.{IsShown, LeastAre}
use Rattle.cti_minimise.proofs.minimising.from_above.Given as goal

abbrev pub invariant-loop-turn : goal.invariant-loop-turn
invariant-loop-turn l =
    IsShown l.fn.trials l.found × LeastAre l.fn.trials (take l.fn.place (extent l.found.structure))
