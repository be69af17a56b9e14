use Rattle.limits.specs.Ceilings.{ceilings}
use Rattle.pruned_decide.proofs.Carried.{satisfied, reduct_ready}
use Rattle.pruned_decide.proofs.deciding.decide_small.Goals as goal

pub widened-requires-clause-fits : goal.widened-requires-clause-fits
widened-requires-clause-fits c =
    let small = c.args.small.now in
    reduct_ready (ceilings c.args.limits.now) c.args.whole.now small.kept small.signature small.sentence
    c.exactness-2.ensures.fits c.exactness.ensures.models c.requires.fits c.requires.pruned c.in_ok-proof.field-0
    c.in-Satisfied.model c.restrict.new.self c.in-Satisfied.is c.in_ok-proof.ensures c.restrict.ensures

pub returns-in_ok-wide-in-Satisfied : goal.returns-in_ok-wide-in-Satisfied
returns-in_ok-wide-in-Satisfied c =
    let small = c.args.small.now in
    satisfied (ceilings c.args.limits.now) c.args.whole.now small.kept small.signature small.sentence
    c.in_ok-proof.field-0 c.in-Satisfied.model c.restrict.new.self c.in_ok-wide-in-Satisfied.wide c.in-Satisfied.is
    c.in_ok-proof.ensures c.restrict.ensures c.in_ok-wide-in-Satisfied.ensures
