use Rattle.cti_minimise.specs.Minimal.{numbers_up_to}
use Rattle.cti_minimise.specs.Steps.{LeastAre}
use Rattle.cti_minimise.proofs.minimising.from_below.Given as goal

abbrev pub invariant-loop-most : goal.invariant-loop-most
invariant-loop-most l = LeastAre l.fn.trials (numbers_up_to l.fn.shown.structure l.fn.place l.most)
