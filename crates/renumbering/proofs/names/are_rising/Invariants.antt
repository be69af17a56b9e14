use Rattle.std.proofs.Common.{length}
use Rattle.cnf_base.specs.Rising.{AreRising}
use Rattle.renumbering.proofs.names.are_rising.Given as goal

abbrev pub invariant-loop-rest : goal.invariant-loop-rest
invariant-loop-rest l = record {
  goes_on : AreRising l.most l.last l.rest → AreRising l.most 0 l.names;
}

abbrev pub decreases-loop-rest : goal.decreases-loop-rest
decreases-loop-rest l = length l.rest
