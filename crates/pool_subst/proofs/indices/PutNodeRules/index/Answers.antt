use Rattle.std.proofs.Common.{◌-◌}
use Rattle.pool_subst.proofs.Arguments.{have_at, argument_is}
use Rattle.pool_subst.proofs.indices.PutNodeRules.index.Goals as goal

pub raised-requires : goal.raised-requires
raised-requires c =
    have_at c.args.pool.now c.args.self.now.args.now (c.args.index - c.args.depth) (record { 0 = 0 })
    c.if-place-self.true c.requires

pub returns-then-place-self-clause-node : goal.returns-then-place-self-clause-node
returns-then-place-self-clause-node c =
    argument_is c.args.pool.now c.raised.new.pool c.args.self.now.args.now c.args.depth c.args.index
    c.in_ok-node-2.node.0 (record { 0 = 0 }) c.if-index-depth.false c.if-place-self.true
    c.in_ok-node-2.ensures.node
