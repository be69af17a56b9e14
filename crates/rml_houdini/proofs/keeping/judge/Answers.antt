use Rattle.limits.specs.Ceilings.{ceilings}
use Rattle.rml_houdini.proofs.Sufficing.{grows_by, fails_held}
use Rattle.rml_houdini.proofs.keeping.judge.Goals as goal

pub returns-in_ok-push-in-Some-clause-grows : goal.returns-in_ok-push-in-Some-clause-grows
returns-in_ok-push-in-Some-clause-grows c =
    grows_by c.args.held.now c.args.assumed.now.held.items c.push.new.self.items c.in-Some.conjecture c.in-Some.ensures
    c.in_ok-push-in-Some.ensures.items

pub returns-in-Ok-true-clause-turn : goal.returns-in-Ok-true-clause-turn
returns-in-Ok-true-clause-turn c =
    fails_held (ceilings c.args.limits.now) c.args.checked.now c.args.assumed.now.held.items c.args.held.now
    c.args.goal.now c.args.shown c.requires.fails (c.in-Ok-true.ensures c.in-Ok-true.field-0-test)
