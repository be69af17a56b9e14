use Rattle.std.proofs.Common.{◌≤◌, ◌+◌, ◌-◌, length}
use Rattle.cdcl.specs.Trail.{is_set, free}
use Rattle.cdcl.specs.State.{IsState, Grows, IsWatchingAt}
use Rattle.cdcl.proofs.state.State.propagate.Given as goal

abbrev pub invariant-loop-head : goal.invariant-loop-head
invariant-loop-head l = record {
  state : IsState l.self;
  grows : Grows l.initial.self l.self;
  within : l.head ≤ length l.self.trail.steps;
  watching : IsWatchingAt l.self l.head;
}

abbrev pub decreases-loop-head : goal.decreases-loop-head
decreases-loop-head l = free (is_set l.self.trail.steps) l.self.trail.size + length l.self.trail.steps - l.head
