use Rattle.std.proofs.Common.{◌≡◌, length}
use Rattle.clause_form.specs.Machine.{settle}
use Rattle.clause_form.specs.Boards.{state_of}
use Rattle.clause_form.proofs.board.Board.settle.Given as goal

abbrev pub invariant-loop : goal.invariant-loop
invariant-loop l = record {
  same : settle (state_of l.self) ≡ settle (state_of l.initial.self);
  variables : l.self.variables ≡ l.initial.self.variables;
}

abbrev pub decreases-loop : goal.decreases-loop
decreases-loop l = length l.self.nodes
