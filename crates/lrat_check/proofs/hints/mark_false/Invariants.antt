use Rattle.std.proofs.Common.{◌≡◌, ◌≤◌, ℕ, drop, false, length}
use Rattle.cnf_base.specs.Clauses.{has_opposites}
use Rattle.cnf_base.specs.LitSetValue.{set_of}
use Rattle.lrat_log.specs.Accepted.{all_false}
use Rattle.lrat_check.proofs.hints.mark_false.Given as goal

abbrev pub invariant-loop-i : goal.invariant-loop-i
invariant-loop-i l = record {
  within : l.i ≤ length l.clause;
  none : has_opposites (drop l.i l.clause) ≡ false;
  marks : (x : ℕ) → set_of l.set x ≡ all_false (drop l.i l.clause) x;
}

abbrev pub decreases-loop-i : goal.decreases-loop-i
decreases-loop-i l = l.i
