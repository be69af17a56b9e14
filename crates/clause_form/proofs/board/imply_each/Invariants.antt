use Rattle.std.proofs.Common.{◌≡◌, ◌≤◌, length, take, ◌++◌}
use Rattle.clause_form.specs.Clauses.{implies_each}
use Rattle.clause_form.proofs.board.imply_each.Given as goal

abbrev pub invariant-loop-rest : goal.invariant-loop-rest
invariant-loop-rest l = record {
  long : length l.fn.clauses.items ≤ length l.clauses.items;
  kept : take (length l.fn.clauses.items) l.clauses.items ≡ l.fn.clauses.items;
  written : l.clauses.items ++ implies_each l.own l.rest ≡ l.fn.clauses.items ++ implies_each l.own l.parts;
}

abbrev pub decreases-loop-rest : goal.decreases-loop-rest
decreases-loop-rest l = length l.rest
