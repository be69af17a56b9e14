use Rattle.std.proofs.Common.{◌≡◌, ◌≤◌, ℕ, take}
use Rattle.std.specs.List.{All}
use Rattle.lrat_log.specs.Held.{held_of}
use Rattle.lrat_check.specs.declared.spans.Span.{Span}
use Rattle.lrat_check.specs.TableValue.{held_by_table}
use Rattle.lrat_check.proofs.checker.table_of.Given as goal

abbrev pub invariant-loop-i : goal.invariant-loop-i
invariant-loop-i l = record {
  held : (k : ℕ) → held_by_table l.table k
      ≡ held_of (record { variables = l.fn.cnf.variables; clauses = take l.i l.fn.cnf.clauses }) k;
  last : All (λ (s : Span). s.id ≤ l.i) l.table.spans;
}
