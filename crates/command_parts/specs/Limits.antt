-- The limits of a decision, as a command line asks for them.
use Rattle.limits.specs.Ceilings.{Ceilings}
use Rattle.command_line.specs.declared.request.Asked.{Asked}

-- the limits that were asked for
abbrev pub ceilings_of : Asked → Ceilings
ceilings_of asked = record { terms = asked.terms; size = asked.ground_size; conflicts = asked.conflicts }
