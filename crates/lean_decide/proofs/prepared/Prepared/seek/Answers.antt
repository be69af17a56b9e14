use Rattle.lean_decide.specs.Sought.{formula}
use Rattle.lean_decide.proofs.prepared.Prepared.seek.Goals as goal

pub seek_by-requires-clause-answered : goal.seek_by-requires-clause-answered
seek_by-requires-clause-answered c = (rw c.in-Some.is at c.requires.prepared.affected).0

pub seek_by-requires-clause-affected : goal.seek_by-requires-clause-affected
seek_by-requires-clause-affected c = (rw c.in-Some.is at c.requires.prepared.affected).1

pub returns-in-None : goal.returns-in-None
returns-in-None c = formula (rw c.in-None.is at c.requires.prepared.affected)
