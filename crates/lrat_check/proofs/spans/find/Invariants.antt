use Rattle.std.proofs.Common.{◌-◌, ◌<◌, ◌≤◌, ℕ, length, get_or}
use Rattle.lrat_check.specs.declared.spans.Span.{Span}
use Rattle.lrat_check.proofs.spans.find.Given as goal

abbrev pub invariant-loop-low : goal.invariant-loop-low
invariant-loop-low l = record {
  ordered : l.low ≤ l.high;
  within : l.high ≤ length l.spans;
  below : (k : ℕ) (d : Span) → k < l.low → (get_or l.spans k d).id < l.id;
  above : (k : ℕ) (d : Span) → l.high ≤ k → k < length l.spans → l.id ≤ (get_or l.spans k d).id;
}

abbrev pub decreases-loop-low : goal.decreases-loop-low
decreases-loop-low l = l.high - l.low
