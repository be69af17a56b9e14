-- The limits as plain numbers, which definitions speak of.
use Rattle.std.specs.Prelude.{ℕ}
use Rattle.limits.specs.declared.limits.Limits.{Limits}

-- most ground terms, largest ground formulas, most learnt clauses
pub record Ceilings : Type 0 where
  pub terms : ℕ
  pub size : ℕ
  pub conflicts : ℕ

abbrev pub ceilings : Limits → Ceilings
ceilings l = record { terms = l.terms; size = l.ground_size; conflicts = l.conflicts }
