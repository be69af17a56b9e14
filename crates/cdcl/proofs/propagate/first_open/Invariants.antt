use Rattle.std.proofs.Common.{take}
use Rattle.cdcl.specs.Trail.{is_set}
use Rattle.cdcl.specs.Visit.{AreFalseBut}
use Rattle.cdcl.proofs.propagate.first_open.Given as goal

abbrev pub invariant-loop-position : goal.invariant-loop-position
invariant-loop-position l = AreFalseBut (is_set l.trail.steps) (take l.position l.clause) l.one l.other
