use Rattle.branches.proofs.Standing.{marks_within}
use Rattle.branches.proofs.laws.mark_law.Goals as goal

pub returns : goal.returns
returns c = marks_within
