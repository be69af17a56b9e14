-- How a search begins.
use Rattle.std.specs.Prelude.{◌<◌, ◌≡◌, []}
use Rattle.cnf_base.specs.Formulas.{Formula}
use Rattle.lrat_log.specs.Held.{held_of}
use Rattle.lrat_log.specs.Learnt.{IsResolvent}
use Rattle.cdcl.specs.declared.search.Search.{Search}
use Rattle.cdcl.specs.declared.load.Loaded.{Loaded}
use Rattle.cdcl.specs.declared.load.Loaded.TheVariants.{Ready, Refuted}
use Rattle.cdcl.specs.Solver.{IsSearch}

-- a search at level 0, of which nothing is drawn
pub record IsAtRoot (s : Search) : Type 0 where
  pub solver : IsSearch s
  pub starts : s.starts.items ≡ []
  pub head : s.head ≡ 0
  pub some : 2 < s.state.trail.size

-- the clauses of the formula are held; or the empty clause is a resolvent of them
abbrev pub IsLoaded : Formula → Loaded → Type 0
IsLoaded f (Ready s) = s.state.clauses ≡ f.clauses
IsLoaded f (Refuted hints) = IsResolvent (held_of f) [] hints.items
