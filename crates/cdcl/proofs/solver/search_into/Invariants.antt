use Rattle.std.proofs.Common.{◌≡◌, ◌≤◌, length}
use Rattle.cdcl.specs.Logged.{IsLogged}
use Rattle.cdcl.proofs.solver.search_into.Given as goal

abbrev pub invariant-loop-spent : goal.invariant-loop-spent
invariant-loop-spent g l = record {
  formula : g.S.Sink.formula l.sink ≡ g.S.Sink.formula l.fn.sink;
  logged : IsLogged (g.S.Sink.formula l.fn.sink) l.solver.state.clauses (g.S.Sink.lines l.sink);
  count : length (g.S.Sink.lines l.sink) ≡ l.spent;
  most : l.spent ≤ l.budget;
}
