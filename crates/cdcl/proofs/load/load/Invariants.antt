use Rattle.std.proofs.Common.{◌≡◌, ◌+◌, ◌*◌, take}
use Rattle.cdcl.specs.Loading.{IsAtRoot}
use Rattle.cdcl.proofs.load.load.Given as goal

abbrev pub invariant-loop-entry : goal.invariant-loop-entry
invariant-loop-entry l = record {
  root : IsAtRoot l.search;
  clauses : l.search.state.clauses ≡ take l.entry-index l.entries;
  size : l.search.state.trail.size ≡ 2 * (l.greatest + 1);
}
