-- How far a reader is.
use Rattle.std.specs.Prelude.{Bool, true, false}
use Rattle.lrat_log.specs.declared.text.Stage.{Stage}
use Rattle.lrat_log.specs.declared.text.Stage.TheVariants.{Id, Second, Literals, Hints, Deleted}
use Rattle.lrat_log.specs.declared.reader.Reading.{Reading}
use Rattle.lrat_log.specs.WordByWord.{State}

-- what a reader has read so far
abbrev pub state_of : Reading → State
state_of r = record {
  stage = r.stage;
  variables = r.variables;
  last = r.last;
  lines = r.lines;
  id = r.id;
  place = r.place;
  lits = r.lits.items;
  ids = r.ids.items;
}

-- whether the next word is a hint, or an id to delete
abbrev pub is_for_ids : Stage → Bool
is_for_ids Hints = true
is_for_ids Deleted = true
is_for_ids Id = false
is_for_ids Second = false
is_for_ids Literals = false
