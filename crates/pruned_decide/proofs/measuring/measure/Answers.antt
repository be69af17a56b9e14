use Rattle.limits.specs.Ceilings.{ceilings}
use Rattle.pruned_decide.proofs.BothWays.{Keeps}
use Rattle.pruned_decide.proofs.Carried.{whole_ready, strata_ready}
use Rattle.pruned_decide.proofs.Counted.{counted_small}
use Rattle.pruned_decide.proofs.measuring.measure.Goals as goal

pub measure_whole-measured-requires-clause-strata : goal.measure_whole-measured-requires-clause-strata
measure_whole-measured-requires-clause-strata c =
    let e = c.in_ok-whole.ensures in
    let laws : Keeps = record {
      truth = c.exactness-2.ensures.truth;
      fits = c.exactness-2.ensures.fits;
      skolem = c.exactness.ensures.models;
      pruned = c.pruning_law.ensures.formulas;
      occurring = c.pruning_law.ensures.occurring;
    } in
    strata_ready laws c.args.signature.now c.args.sentence.now c.requires.fits c.in_ok-whole.whole.signature
    c.in_ok-whole.whole.sentence e.signature e.sentence c.growth_laws.ensures.sorts c.args.strata.now c.requires.strata

pub measure_whole-measured-requires-clause-fits : goal.measure_whole-measured-requires-clause-fits
measure_whole-measured-requires-clause-fits c =
    let e = c.in_ok-whole.ensures in
    let laws : Keeps = record {
      truth = c.exactness-2.ensures.truth;
      fits = c.exactness-2.ensures.fits;
      skolem = c.exactness.ensures.models;
      pruned = c.pruning_law.ensures.formulas;
      occurring = c.pruning_law.ensures.occurring;
    } in
    whole_ready laws c.args.signature.now c.args.sentence.now c.requires.fits c.in_ok-whole.whole.signature
    c.in_ok-whole.whole.sentence e.signature e.sentence

pub returns-clause-measured : goal.returns-clause-measured
returns-clause-measured c =
    let e = c.in_ok-whole.ensures in
    counted_small (ceilings c.args.limits.now) c.in_ok-measured.measured c.args.signature.now c.args.sentence.now
    c.in_ok-whole.whole.signature c.in_ok-whole.whole.sentence e.signature e.sentence c.in_ok-measured.ensures
