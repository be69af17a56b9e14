use Rattle.std.proofs.Common.{◌≡◌, ◌≤◌, ◌⊎◌, ℕ, reverse, length, true, ◌<◌, []}
use Rattle.cdcl.specs.Trail.{reason_at, was_set}
use Rattle.lrat_log.specs.Held.{held_by}
use Rattle.lrat_log.specs.Learnt.{IsQuiet}
use Rattle.cdcl.specs.Walk.{IsWalk}
use Rattle.cdcl.specs.Learning.{is_marked, HasTops, HasOpen, HasOneTop, AreBeforeSecond, IsSecond}
use Rattle.cdcl.proofs.analyse.analyse.Given as goal

abbrev pub invariant-loop-t : goal.invariant-loop-t
invariant-loop-t l = record {
  within : l.t ≤ length l.trail.steps;
  walk : IsWalk (held_by l.clauses) l.trail.steps l.t (is_marked l.marks) l.found.items (reverse l.hints.items);
  tops : HasTops l.trail.steps l.fn.analysis.levels.top l.found.items l.tops;
  left : IsQuiet (held_by l.clauses) (was_set l.trail.steps l.fn.analysis.levels.top)
      → HasOpen l.trail.steps l.fn.analysis.levels.top (is_marked l.marks) l.tops;
  none : length l.trail.steps ≤ l.fn.analysis.levels.root → length l.trail.steps ≤ l.fn.analysis.levels.top
      → ((i : ℕ) → i < length l.trail.steps → reason_at l.trail.steps i ≡ 0 → ⊥) → l.found.items ≡ [];
  one : l.fn.analysis.decisions_only ≡ true → HasOneTop l.fn.analysis.levels.top l.t l.tops;
  before : AreBeforeSecond l.trail.steps l.fn.analysis.levels.top l.found.items l.second;
  stands : IsSecond l.trail.steps l.found.items l.second;
  from : (l.second ≡ 0) ⊎ (l.t ≤ l.second);
  most : l.second ≤ l.fn.analysis.levels.top;
}

abbrev pub decreases-loop-t : goal.decreases-loop-t
decreases-loop-t l = l.t
