use Rattle.std.proofs.Common.{◌≡◌, length}
use Rattle.cdcl.specs.Trail.{is_set}
use Rattle.cdcl.proofs.Values.{AreValues}
use Rattle.cdcl.proofs.truth.truth_values.Given as goal

abbrev pub invariant-loop-index : goal.invariant-loop-index
invariant-loop-index l = record {
  len : length l.values ≡ l.variables;
  values : AreValues l.values (is_set l.trail.steps) l.trail.size l.index;
}
