-- What a decision may spend, as a command line asks.
use Rattle.std.specs.Prelude.{◌≤◌}
use Rattle.command_line.specs.declared.request.Asked.{Asked}
use Rattle.command_line.specs.declared.request.Request.{Request}
use Rattle.command_line.specs.declared.request.Request.TheVariants as request

-- so many ground terms, so large ground formulas, so many learnt clauses
abbrev pub default_asked : Asked
default_asked = record { terms = 400; ground_size = 2000000; conflicts = 100000 }

-- the numbers that may be asked for
pub record IsInRange (asked : Asked) : Type 0 where
  pub terms : (1 ≤ asked.terms) × (asked.terms ≤ 100000)
  pub ground_size : (1 ≤ asked.ground_size) × (asked.ground_size ≤ 50000000)
  pub conflicts : (1 ≤ asked.conflicts) × (asked.conflicts ≤ 100000000)

-- each number of a command line is one of those that may stand there
abbrev pub HasRanges : Request → Type 0
HasRanges (request.Check file asked) = IsInRange asked
HasRanges (request.Houdini file asked) = IsInRange asked
HasRanges (request.Bmc file bound) = (bound.steps ≤ 12) × IsInRange bound.limits
HasRanges (request.Lrat formula log) = Unit {0}
HasRanges (request.Replay model report) = Unit {0}
HasRanges (request.Emit file asked) = (1 ≤ asked.goal) × (asked.goal ≤ 1000000000) × IsInRange asked.limits
HasRanges (request.Sample n) = n ≤ 40
