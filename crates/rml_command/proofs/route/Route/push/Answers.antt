use Rattle.rml_command.proofs.SpanLists.{grown}
use Rattle.rml_command.proofs.route.Route.push.Goals as goal

pub returns-then-span-self-clause-pushed : goal.returns-then-span-self-clause-pushed
returns-then-span-self-clause-pushed c =
    grown c.self.inside.spans.items c.self.inside.last.start c.self.inside.last.end c.args.span.start c.args.span.end
    c.self.inside.aborts c.args.self.now c.self.invariant.1 c.requires c.if-span-self.true c.self.view_is
