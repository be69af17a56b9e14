-- The tree stands within the text, and has no fault of names and sorts.
use Rattle.std.proofs.Common.{length}
use Rattle.branches.proofs.source.Source.marks.Goals as goal

pub returns-clause-within : goal.returns-clause-within
returns-clause-within c =
    rw (← c.self.view_is)
    (c.in_ok-marks.ensures.within c.self.inside.text.now (length c.self.inside.text.now) c.self.invariant.1
    c.self.invariant.0)
