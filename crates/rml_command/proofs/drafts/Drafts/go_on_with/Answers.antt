use Rattle.rml_command.proofs.RouteLists.{stops_further, further}
use Rattle.rml_command.proofs.drafts.Drafts.go_on_with.Goals as goal

pub of-requires : goal.of-requires
of-requires c =
    stops_further c.self.inside.routes.items c.self.inside.tail c.args.one.now _ c.self.inside.onward c.aborts.result
    c.in_ok-go_on.ensures c.aborts.ensures c.self.invariant

pub returns : goal.returns
returns c =
    further c.self.inside.routes.items c.self.inside.tail c.args.one.now _ c.args.self c.of.result c.in_ok-go_on.ensures
    c.self.view_is c.of.ensures
