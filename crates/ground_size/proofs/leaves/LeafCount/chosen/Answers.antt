use Rattle.std.proofs.Common.{arith}
use Rattle.ground_size.proofs.LeafCounts.{ite-leaves}
use Rattle.ground_size.proofs.leaves.LeafCount.chosen.Goals as goal

pub returns : goal.returns
returns c = λ counts p a b z h i. ite-leaves counts _ c.args.self c.args.other c.args.condition p a b z h i
    (record {
      leaves = omega arith;
      conditions = omega arith;
    })
