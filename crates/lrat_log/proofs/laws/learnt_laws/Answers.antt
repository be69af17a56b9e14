use Rattle.std.proofs.Common.{length}
use Rattle.lrat_log.specs.Held.{held_of}
use Rattle.lrat_log.proofs.Resolvent.{resolvent_accepted, learnt_accepted}
use Rattle.lrat_log.proofs.laws.learnt_laws.Goals as goal

pub returns-clause-resolvent : goal.returns-clause-resolvent
returns-clause-resolvent c = resolvent_accepted

pub returns-clause-log : goal.returns-clause-log
returns-clause-log c f lines a = learnt_accepted f.variables (held_of f) (length f.clauses) lines a
