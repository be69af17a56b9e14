use Rattle.limits.specs.Ceilings.{ceilings}
use Rattle.pruned_decide.proofs.Ready.{small_strata, small_ready}
use Rattle.pruned_decide.proofs.Counted.{counted_pruned}
use Rattle.pruned_decide.proofs.measuring.measure_whole.Goals as goal

pub measure-measured-requires-clause-strata : goal.measure-measured-requires-clause-strata
measure-measured-requires-clause-strata c =
    small_strata c.pruning_law.ensures.occurring c.args.whole.now.signature c.args.whole.now.sentence
    c.in_ok-small.small.signature c.in_ok-small.ensures.signature c.pruning_law.ensures.signatures c.args.strata.now
    c.requires.strata

pub measure-measured-requires-clause-fits : goal.measure-measured-requires-clause-fits
measure-measured-requires-clause-fits c =
    small_ready c.pruning_law.ensures.occurring c.args.whole.now.signature c.args.whole.now.sentence
    c.in_ok-small.small.signature c.in_ok-small.ensures.signature c.pruning_law.ensures.formulas
    c.in_ok-small.small.sentence c.in_ok-small.ensures.sentence c.requires.fits

pub returns : goal.returns
returns c =
    let e = c.in_ok-small.ensures in
    let small = c.in_ok-small.small in
    counted_pruned (ceilings c.args.limits.now) c.in_ok-measured.measured c.args.whole.now.signature
    c.args.whole.now.sentence small.signature small.sentence e.signature e.sentence c.in_ok-measured.ensures
