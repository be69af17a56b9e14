use Rattle.std.specs.Vec.Iter.{into_iter_items}
use Rattle.lrat_check.proofs.GrowthLaws.{AreGrowthLaws}
use Rattle.lrat_check.proofs.Stepping.{Stands, steps_off}
use Rattle.lrat_check.proofs.whole.check_owned.Goals as goal

pub loop-line-preserved : goal.loop-line-preserved
loop-line-preserved c =
    let laws : AreGrowthLaws = record {
      held = c.growth_laws.ensures.held;
      last = c.growth_laws.ensures.last;
      addition = c.growth_laws.ensures.addition;
      deletion = c.growth_laws.ensures.deletion;
      accepted = c.growth_laws.ensures.accepted;
    } in
    let rest = into_iter_items c.loop-line.lines in
    let stands : Stands c.args.cnf c.args.log c.loop-line.checker rest = record {
      formula = c.loop-line.invariant.formula;
      splits = c.loop-line.invariant.splits;
      over = c.loop-line.invariant.over;
      accepted = c.loop-line.invariant.accepted;
      refusal = c.loop-line.invariant.refusal;
    } in
    let s = steps_off laws c.args.cnf c.args.log rest
    (into_iter_items c.next.new.self) c.loop-line.checker c.step_owned.new.self c.in-Some.line stands
    c.in-Some.ensures.items c.in-Ok.ensures.accepted c.in-Ok.ensures.kept in
    record { formula = s.formula; splits = s.splits; over = s.over; accepted = s.accepted; refusal = s.refusal }
