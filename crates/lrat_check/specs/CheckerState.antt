-- The invariant of a checker.
use Rattle.std.specs.Prelude.{ℕ, ◌≡◌, ◌≤◌, All}
use Rattle.lrat_log.specs.Accepted.{IsAccepted, adds_empty}
use Rattle.lrat_check.specs.declared.spans.Span.{Span}
use Rattle.lrat_check.specs.declared.checker.Checker.TheInside.{Inside}
use Rattle.lrat_check.specs.TableValue.{held_by_table}
use Rattle.lrat_check.specs.Checked.{Checked, held_now, last_of}

-- the formula and the accepted lines that the checker keeps
abbrev pub value_of_checker : Inside → Checked
value_of_checker a = record { formula = a.cnf; lines = a.lines.items }

-- The table holds what the accepted lines leave held, under ids up to the last, and the checker knows whether one of
-- them is the empty clause.
pub record IsChecker (a : Inside) : Type 0 where
  pub accepted : IsAccepted a.cnf a.lines.items
  pub held : (k : ℕ) → held_by_table a.table k ≡ held_now (value_of_checker a) k
  pub last : All (λ (s : Span). s.id ≤ last_of (value_of_checker a)) a.table.spans
  pub refuted : a.is_refuted ≡ adds_empty a.lines.items
