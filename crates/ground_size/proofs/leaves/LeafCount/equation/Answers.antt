use Rattle.ground_size.proofs.LeafCounts.{equal-size}
use Rattle.ground_size.proofs.leaves.LeafCount.equation.Goals as goal

pub returns : goal.returns
returns c = λ counts a b h i. equal-size counts c.literal.result c.args.self c.args.other c.joined.result a b h i
    c.joined.ensures c.literal.ensures
