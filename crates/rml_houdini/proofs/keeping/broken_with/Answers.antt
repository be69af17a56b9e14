use Rattle.rml_houdini.proofs.Drops.{has_at}
use Rattle.rml_houdini.proofs.keeping.broken_with.Goals as goal

pub returns-then-not-holds : goal.returns-then-not-holds
returns-then-not-holds c =
    has_at c.args.held.now c.loop-conjecture.conjecture-index 0 c.loop-conjecture-test.true
