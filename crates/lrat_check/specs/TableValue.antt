-- What contracts see of a table: its spans, and the literals that they point into.
use Rattle.std.specs.Prelude.{ℕ, List}
use Rattle.lrat_log.specs.Held.{Held}
use Rattle.lrat_check.specs.declared.spans.Span.{Span}
use Rattle.lrat_check.specs.Spans.{held_in}

-- where each held clause lies among the literals, and these
pub record TableValue : Type 0 where
  pub spans : List Span
  pub literals : List ℕ

-- the clauses that the table holds, by their ids
abbrev pub held_by_table : TableValue → Held
held_by_table t = held_in t.literals t.spans
