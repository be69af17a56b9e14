use Rattle.ground_size.proofs.LeafCounts.{app-leaves}
use Rattle.ground_size.proofs.leaves.LeafCount.application.Goals as goal

pub returns : goal.returns
returns c = λ counts f args h. app-leaves counts c.args.self f args h
