use Rattle.std.proofs.Common.{◌≤◌, length}
use Rattle.cdcl.specs.State.{IsState, Grows, IsVisiting}
use Rattle.cdcl.proofs.state.State.visit_list.Given as goal

abbrev pub invariant-loop-i : goal.invariant-loop-i
invariant-loop-i l = record {
  state : IsState l.self;
  grows : Grows l.initial.self l.self;
  within : l.i ≤ length l.list;
  visited : IsVisiting l.self l.head l.list l.i;
}

abbrev pub decreases-loop-i : goal.decreases-loop-i
decreases-loop-i l = l.i
