use Rattle.std.proofs.Common.{◌≡◌, ◌≤◌, drop, map}
use Rattle.ground_terms.specs.FunctionRows.{noted}
use Rattle.ground_terms.specs.TermViews.{plain_term}
use Rattle.ground_terms.proofs.terms.note_firsts.Given as goal

abbrev pub invariant-loop-place : goal.invariant-loop-place
invariant-loop-place l = record {
  within : l.place ≤ l.count;
  now : l.firsts.items ≡ noted l.place (drop l.place (map plain_term l.terms)) l.fn.firsts.items;
}

abbrev pub decreases-loop-place : goal.decreases-loop-place
decreases-loop-place l = l.place
