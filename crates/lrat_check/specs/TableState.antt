-- The invariant of a table.
use Rattle.std.specs.Prelude.{◌≡◌, length}
use Rattle.lrat_check.specs.declared.table.Table.TheInside.{Inside}
use Rattle.lrat_check.specs.TableValue.{TableValue}
use Rattle.lrat_check.specs.Spans.{AreSorted, AreWithin, AreUpTo}

abbrev pub value_of_table : Inside → TableValue
value_of_table a = record { spans = a.spans.items; literals = a.literals.items }

-- the spans are sorted and lie among the literals, and each has a mark that is no later than the epoch
pub record IsTable (a : Inside) : Type 0 where
  pub sorted : AreSorted a.spans.items
  pub within : AreWithin a.spans.items (length a.literals.items)
  pub marks_past : AreUpTo a.epoch a.marks.items
  pub marks_size : length a.marks.items ≡ length a.spans.items
