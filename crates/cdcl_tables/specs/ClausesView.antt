-- What the clauses of a solver stand for.
use Rattle.std.specs.Prelude.{ℕ, ◌≤◌, if◌then◌else◌, List, length, slice_range, map, All}
use Rattle.cnf_base.specs.declared.cnf.Entry.{Entry}
use Rattle.cnf_base.specs.declared.cnf.Entry.TheVariants.{Clause, True}
use Rattle.cdcl_tables.specs.declared.clauses.Span.{Span}
use Rattle.cdcl_tables.specs.declared.clauses.Clauses.TheInside.{Inside}

-- the clause whose literals lie in the span, or one that is always true
abbrev pub entry_of_span : List ℕ → Span → Entry
entry_of_span literals s = if s.is_true then True else Clause (slice_range literals s.start s.end)

-- the span lies among the first n literals
abbrev pub IsWithin : ℕ → Span → Type 0
IsWithin n s = (s.start ≤ s.end) × (s.end ≤ n)

-- the clauses, in order
abbrev pub entries_of : Inside → List Entry
entries_of a = map (entry_of_span a.literals.items) a.spans.items

-- each span lies among the literals
abbrev pub AreSpans : Inside → Type 0
AreSpans a = All (IsWithin (length a.literals.items)) a.spans.items
