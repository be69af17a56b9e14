use Rattle.std.proofs.Common.{arith}
use Rattle.cdcl.proofs.Growth.{grows_trans}
use Rattle.cdcl.proofs.state.State.propagate.Goals as goal

pub returns-in-Some-clause-grows : goal.returns-in-Some-clause-grows
returns-in-Some-clause-grows c =
    grows_trans c.args.self.now c.loop-head.self c.propagate_one.new.self c.loop-head.invariant.grows
    c.in_ok-id.ensures.grows

pub loop-head-preserved : goal.loop-head-preserved
loop-head-preserved c =
    let t = c.loop-head-test.true in
    let x = c.in_ok-id.ensures.grows.extends.longer in
    let n = c.len.ensures.len in
    record {
      state = c.in_ok-id.ensures.state;
      grows = grows_trans c.args.self.now c.loop-head.self c.propagate_one.new.self c.loop-head.invariant.grows
          c.in_ok-id.ensures.grows;
      within = omega arith;
      watching = rw c.in-None.is at c.in_ok-id.ensures.watching;
    }
