use Rattle.ground_size.proofs.LeafCounts.{then-leaves}
use Rattle.ground_size.proofs.leaves.LeafCount.in_front_of.Goals as goal

pub returns : goal.returns
returns c = λ counts t ts h i. then-leaves counts c.joined.result c.args.self c.args.row t ts h i c.joined.ensures
