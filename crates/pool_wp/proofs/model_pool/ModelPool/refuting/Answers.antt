use Rattle.pool_wp.proofs.Own.{all_nodes}
use Rattle.pool_wp.proofs.model_pool.ModelPool.refuting.Goals as goal

pub refuting-requires-clause-nodes : goal.refuting-requires-clause-nodes
refuting-requires-clause-nodes c =
    let shared = c.args.self.now in
    all_nodes c.args.checked.now shared.pool shared.own shared.nodes c.requires.shared.nodes
