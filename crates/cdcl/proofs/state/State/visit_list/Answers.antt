use Rattle.cdcl.proofs.Growth.{grows_trans}
use Rattle.cdcl.proofs.state.State.visit_list.Goals as goal

pub returns-in-Some-clause-grows : goal.returns-in-Some-clause-grows
returns-in-Some-clause-grows c =
    grows_trans c.args.self.now c.loop-i.self c.visit.new.self c.loop-i.invariant.grows c.in_ok-id.ensures.grows

pub loop-i-preserved : goal.loop-i-preserved
loop-i-preserved c = record {
  state = c.in_ok-id.ensures.state;
  grows = grows_trans c.args.self.now c.loop-i.self c.visit.new.self c.loop-i.invariant.grows c.in_ok-id.ensures.grows;
  within = c.in_ok-id.ensures.length;
  visited = rw c.in-None.is at c.in_ok-id.ensures.visited;
}
