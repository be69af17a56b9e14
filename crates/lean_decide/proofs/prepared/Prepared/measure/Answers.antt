use Rattle.limits.specs.Ceilings.{ceilings}
use Rattle.lean_decide.proofs.SameLimits.{too_large}
use Rattle.lean_decide.proofs.prepared.Prepared.measure.Goals as goal

pub measure_by-requires-clause-answered : goal.measure_by-requires-clause-answered
measure_by-requires-clause-answered c = (rw c.in-Some.is at c.requires.prepared.precondition).0

pub measure_by-requires-clause-precondition : goal.measure_by-requires-clause-precondition
measure_by-requires-clause-precondition c = (rw c.in-Some.is at c.requires.prepared.precondition).1

pub measure_by-requires-clause-within : goal.measure_by-requires-clause-within
measure_by-requires-clause-within c = (rw c.in-Some.is at c.requires.prepared.precondition).2

pub returns-in-None : goal.returns-in-None
returns-in-None c =
    too_large (ceilings c.args.limits.now) c.args.checked.now c.args.goal.now c.args.more.now
    (rw c.in-None.is at c.requires.prepared.precondition)
