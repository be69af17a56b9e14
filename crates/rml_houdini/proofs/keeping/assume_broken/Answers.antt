use Rattle.rml_houdini.proofs.Sufficing.{grows_by}
use Rattle.rml_houdini.proofs.keeping.assume_broken.Goals as goal

pub returns-in-Some : goal.returns-in-Some
returns-in-Some c =
    grows_by c.args.held.now c.args.assumed.now.held.items c.push.new.self.items c.in-Some.conjecture c.in-Some.ensures
    c.in_ok-push.ensures.items
