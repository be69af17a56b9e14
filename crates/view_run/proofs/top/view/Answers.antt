-- The command line ends as the work does.
use Rattle.view_run.proofs.top.view.Goals as goal

pub returns-clause-ends : goal.returns-clause-ends
returns-clause-ends g c =
    rw (c.from_vec.ensures, c.from_vec-2.ensures, c.finish-finished.ensures.outcome) c.work-done.ensures.ends
