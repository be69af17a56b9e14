use Rattle.std.proofs.Common.{◌≡◌, ◌≤◌, length, take}
use Rattle.cdcl.proofs.search.Search.cut.Given as goal

abbrev pub invariant-loop-self : goal.invariant-loop-self
invariant-loop-self l = record {
  above : l.to ≤ length l.self.state.trail.steps;
  clauses : l.self.state.clauses ≡ l.initial.self.state.clauses;
  watches : l.self.state.watches ≡ l.initial.self.state.watches;
  size : l.self.state.trail.size ≡ l.initial.self.state.trail.size;
  steps : l.self.state.trail.steps ≡ take (length l.self.state.trail.steps) l.initial.self.state.trail.steps;
  starts : l.self.starts.items ≡ l.initial.self.starts.items;
  marks : l.self.marks.items ≡ l.initial.self.marks.items;
}

abbrev pub decreases-loop-self : goal.decreases-loop-self
decreases-loop-self l = length l.self.state.trail.steps
