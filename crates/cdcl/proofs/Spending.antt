-- Where a budget is spent.
use Rattle.std.proofs.Common.{ℕ, ◌<◌, List, length, get_or, sym, subst, arith}
use mathlib.Core.Path.{fun_ext}
use Rattle.cnf_base.specs.Formulas.{Formula}
use Rattle.lrat_log.specs.declared.line.Line.{Line}
use Rattle.lrat_log.specs.Held.{held_of, after_lines}
use Rattle.lrat_log.specs.Learnt.{IsPropagationConsistent}
use Rattle.cdcl.specs.declared.search.Search.{Search}
use Rattle.cdcl.specs.Trail.{was_set}
use Rattle.cdcl.specs.State.{held_in}
use Rattle.cdcl.specs.Solver.{IsSearch}
use Rattle.cdcl.specs.Logged.{IsLogged}
use Rattle.cdcl.proofs.Trails.{trail_consistent}
use Rattle.cdcl.proofs.Searching.{level_quiet}

-- where there is a level, nothing was false or unit where the first one began
pub unrefuted : (f : Formula) (s : Search) (lines : List Line) → IsSearch s → 0 < length s.starts.items
    → IsLogged f s.state.clauses lines
    → IsPropagationConsistent (after_lines (held_of f) lines)
unrefuted f s lines i some g = subst IsPropagationConsistent (sym (fun_ext g.after)) here
  where
    start : ℕ
    start = get_or s.starts.items 0 0

    here : IsPropagationConsistent (held_in s.state)
    here =
        let inside = i.search.decisions.inside 0 some in (
          was_set s.state.trail.steps start,
          trail_consistent (held_in s.state) s.state.trail.steps start
              i.search.state.trail (omega arith),
          level_quiet s.state s.starts.items s.head 0 i.search some,
        )
