use Rattle.cti_minimise.specs.Steps.{AllPassAt}
use Rattle.cti_minimise.proofs.trials.Trials.pass_below.Given as goal

abbrev pub invariant-loop-most : goal.invariant-loop-most
invariant-loop-most l =
    AllPassAt l.fn.self l.fn.bounds.numbers.now l.fn.bounds.place l.fn.lowest l.most
