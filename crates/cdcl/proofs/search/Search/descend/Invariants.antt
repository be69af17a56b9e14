use Rattle.std.proofs.Common.{◌≡◌}
use Rattle.cdcl.specs.Trail.{is_set, free}
use Rattle.cdcl.specs.Solver.{IsSearch}
use Rattle.cdcl.proofs.search.Search.descend.Given as goal

abbrev pub invariant-loop-id : goal.invariant-loop-id
invariant-loop-id l = record {
  solver : IsSearch l.self;
  clauses : l.self.state.clauses ≡ l.initial.self.state.clauses;
  size : l.self.state.trail.size ≡ l.initial.self.state.trail.size;
}

abbrev pub decreases-loop-id : goal.decreases-loop-id
decreases-loop-id l = free (is_set l.self.state.trail.steps) l.self.state.trail.size
