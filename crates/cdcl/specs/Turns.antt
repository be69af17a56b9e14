-- How the main loop finds a search. (Private functions alone cite it.)
use Rattle.std.specs.Prelude.{◌<◌, ◌≡◌, [], length}
use Rattle.lrat_log.specs.Learnt.{IsResolvent}
use Rattle.cdcl.specs.declared.search.Search.{Search}
use Rattle.cdcl.specs.declared.solver.Turn.{Turn}
use Rattle.cdcl.specs.declared.solver.Turn.TheVariants.{Satisfied, Refuted, Conflict}
use Rattle.cdcl.specs.Trail.{IsConflict}
use Rattle.cdcl.specs.Assigned.{AreAllSet}
use Rattle.cdcl.specs.State.{held_in}

-- From a search: all variables are set and nothing is left to draw; the hints refute; or a clause is false above level
-- 0.
abbrev pub IsTurn : Search → Turn → Type 0
IsTurn old (Satisfied s) = (s.state.clauses ≡ old.state.clauses) × (s.head ≡ length s.state.trail.steps)
    × AreAllSet s.state.trail
IsTurn old (Refuted hints) = IsResolvent (held_in old.state) [] hints.items
IsTurn old (Conflict s id) = (s.state.clauses ≡ old.state.clauses) × (0 < length s.starts.items)
    × IsConflict (held_in s.state) s.state.trail.steps id
