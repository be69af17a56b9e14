-- How far a reader is.
use Rattle.std.specs.Prelude.{◌==◌, ◌&&◌, not, nat_lt, nat_le, Bool, length}
use Rattle.cnf_base.specs.declared.reader.Reading.{Reading}
use Rattle.cnf_base.specs.declared.text.Numeral.{Numeral}
use Rattle.cnf_base.specs.WordByWord.{State}

-- what a reader has read so far
abbrev pub state_of : Reading → State
state_of r = record {
  stage = r.stage;
  variables = r.variables;
  count = r.count;
  entries = r.entries;
  lits = r.lits.items;
}

-- whether a number of the body is a literal, of a clause that may come
abbrev pub is_literal : State → Numeral → Bool
is_literal s n = nat_lt 0 n.value && (nat_le n.value s.variables && not (length s.entries == s.count))
