use Rattle.branches.proofs.SamePaths.{marked_are_paths}
use Rattle.branches.proofs.laws.branch_law.Goals as goal

pub returns : goal.returns
returns c = marked_are_paths
