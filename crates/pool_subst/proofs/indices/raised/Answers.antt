use Rattle.pool_subst.proofs.Unraised.{unraised}
use Rattle.pool_subst.proofs.indices.raised.Goals as goal

pub returns-then-by-eq0-clause-node : goal.returns-then-by-eq0-clause-node
returns-then-by-eq0-clause-node c =
    unraised c.args.pool.now c.args.term.0 c.args.by c.if-by-eq0.true c.requires
