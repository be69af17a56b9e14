use Rattle.std.proofs.Common.{◌<◌, length, arith}
use Rattle.lrat_check.proofs.GrowthLaws.{AreGrowthLaws}
use Rattle.lrat_check.proofs.Stepping.{Stands, steps_on}
use Rattle.lrat_check.proofs.whole.check_log.Goals as goal

pub loop-rest-preserved : goal.loop-rest-preserved
loop-rest-preserved c =
    let laws : AreGrowthLaws = record {
      held = c.growth_laws.ensures.held;
      last = c.growth_laws.ensures.last;
      addition = c.growth_laws.ensures.addition;
      deletion = c.growth_laws.ensures.deletion;
      accepted = c.growth_laws.ensures.accepted;
    } in
    let stands : Stands c.args.cnf.now c.args.log.now c.loop-rest.checker c.loop-rest.rest.now = record {
      formula = c.loop-rest.invariant.formula;
      splits = c.loop-rest.invariant.splits;
      over = c.loop-rest.invariant.over;
      accepted = c.loop-rest.invariant.accepted;
      refusal = c.loop-rest.invariant.refusal;
    } in
    let some : 0 < length c.loop-rest.rest.now = omega arith in
    let s = steps_on laws c.args.cnf.now c.args.log.now c.loop-rest.rest.now c.loop-rest.checker c.step.new.self
    c.line-item.result stands some c.line-item.is c.in-Ok.ensures.accepted c.in-Ok.ensures.kept in
    record { formula = s.formula; splits = s.splits; over = s.over; accepted = s.accepted; refusal = s.refusal }
