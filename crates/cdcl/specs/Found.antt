-- What the analysis of a conflict finds.
use Rattle.std.specs.Prelude.{ℕ, ◌-◌, ◌≤◌, length, get_or, reverse}
use Rattle.lrat_log.specs.Learnt.{IsLearnt}
use Rattle.cdcl.specs.declared.analyse.Learnt.{Learnt}
use Rattle.cdcl.specs.declared.search.Search.{Search}
use Rattle.cdcl.specs.Learning.{HasTops, AreBeforeSecond, IsSecond}
use Rattle.cdcl.specs.State.{held_in}

-- the place where the highest level begins
abbrev pub top_of : Search → ℕ
top_of s = get_or s.starts.items (length s.starts.items - 1) 0

-- A learnt clause, whose first literal alone was set at the highest level, the others before `second`.
pub record IsFound (s : Search) (w : Learnt) : Type 0 where
  pub learnt : IsLearnt (held_in s.state) w.literals.items (reverse w.hints.items)
  pub one : HasTops s.state.trail.steps (top_of s) w.literals.items 1
  pub others : AreBeforeSecond s.state.trail.steps (top_of s) w.literals.items w.second
  pub at_most : w.second ≤ top_of s
  pub stands : IsSecond s.state.trail.steps w.literals.items w.second
