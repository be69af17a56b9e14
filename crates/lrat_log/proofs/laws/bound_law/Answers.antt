use Rattle.std.proofs.Common.{length}
use Rattle.lrat_log.specs.Held.{held_of}
use Rattle.lrat_log.proofs.Bounds.{learnt_is_new, learnt_differ, fewer_are_learnt, budget_is_below}
use Rattle.lrat_log.proofs.laws.bound_law.Goals as goal

pub returns-clause-new : goal.returns-clause-new
returns-clause-new c = learnt_is_new

pub returns-clause-different : goal.returns-clause-different
returns-clause-different c f lines j k m n a d gs hs learnt =
    learnt_differ f.variables (held_of f) (length f.clauses) lines learnt j k m n a d gs hs

pub returns-clause-log : goal.returns-clause-log
returns-clause-log c =
    fewer_are_learnt (record { twice = c.opposite_laws.ensures.twice; differs = c.opposite_laws.ensures.differs })

pub returns-clause-budget : goal.returns-clause-budget
returns-clause-budget c =
    budget_is_below (record { twice = c.opposite_laws.ensures.twice; differs = c.opposite_laws.ensures.differs })
