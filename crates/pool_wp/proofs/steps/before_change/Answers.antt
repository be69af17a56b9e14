use Rattle.pool_subst.specs.Replacements.{replacement_stays}
use Rattle.pool_wp.proofs.steps.before_change.Goals as goal

pub replace-requires-clause-change : goal.replace-requires-clause-change
replace-requires-clause-change c =
    (replacement_stays c.args.change c.args.pool.now c.add.new.self c.requires.change c.add.ensures.grows).0
