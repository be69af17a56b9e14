use Rattle.std.proofs.Common.{◌≡◌, length}
use Rattle.told_fault.specs.Hints.{may_separate}
use Rattle.told_fault.proofs.looking.may_separate.Given as goal

abbrev pub invariant-loop-rest : goal.invariant-loop-rest
invariant-loop-rest l = may_separate l.rest ≡ may_separate l.kinds

abbrev pub decreases-loop-rest : goal.decreases-loop-rest
decreases-loop-rest l = length l.rest
