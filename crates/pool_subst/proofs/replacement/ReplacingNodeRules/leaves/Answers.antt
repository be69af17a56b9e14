use Rattle.std.proofs.Common.{false}
use Rattle.pool_subst.proofs.Unmentioned.{left_alone}
use Rattle.pool_subst.proofs.replacement.ReplacingNodeRules.leaves.Goals as goal

pub returns-then-place-self : goal.returns-then-place-self
returns-then-place-self c = λ ts stands there silent depth.
    let own = c.args.self.now in
    left_alone own.change ts own.mentioned.now c.args.node.0 false stands.1 c.if-place-self.true silent depth
