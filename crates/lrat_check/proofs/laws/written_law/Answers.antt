use Rattle.std.proofs.Common.{length}
use Rattle.lrat_log.specs.Held.{held_of}
use Rattle.lrat_check.proofs.Taking.{none_refused}
use Rattle.lrat_check.proofs.laws.written_law.Goals as goal

pub returns : goal.returns
returns c f lines few accepted over = record {
  read = c.round_trip.ensures f.variables (length f.clauses) lines
      (c.range_laws.ensures f.variables (length f.clauses) lines few over) over;
  accepted = none_refused f.variables (held_of f) (length f.clauses) lines accepted;
}
