use Rattle.std.proofs.Common.{take}
use Rattle.cti_minimise.specs.Extents.{extent}
use Rattle.cti_minimise.specs.Steps.{IsShown, LeastAre}
use Rattle.cti_minimise.proofs.minimising.least_by.Given as goal

abbrev pub invariant-loop-place : goal.invariant-loop-place
invariant-loop-place l =
    IsShown l.fn.trials l.found × LeastAre l.fn.trials (take l.place (extent l.found.structure))
