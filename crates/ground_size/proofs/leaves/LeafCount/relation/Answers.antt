use Rattle.ground_size.proofs.LeafCounts.{rel-size}
use Rattle.ground_size.proofs.leaves.LeafCount.relation.Goals as goal

pub returns : goal.returns
returns c = λ counts r args h. rel-size counts c.literal.result c.args.self r args h c.literal.ensures
