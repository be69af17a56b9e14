-- The clauses are those of the work.
use Rattle.ivy_run.proofs.top.run.Goals as goal

pub returns-clause-lrat : goal.returns-clause-lrat
returns-clause-lrat g c =
    rw (c.from_vec.ensures, c.from_vec-2.ensures, c.finish-finished.ensures.outcome) c.work-done.ensures.does.of_lrat

pub returns-clause-replay : goal.returns-clause-replay
returns-clause-replay g c =
    rw (c.from_vec.ensures, c.from_vec-2.ensures, c.finish-finished.ensures.outcome) c.work-done.ensures.does.of_replay
