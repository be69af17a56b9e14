use Rattle.std.proofs.Common.{◌≡◌, ◌++◌}
use Rattle.std.specs.List.{flat_map}
use Rattle.rml_command.specs.Spans.{routes_on}
use Rattle.rml_command.proofs.drafts.go_on_each.Given as goal

abbrev pub invariant-loop-route : goal.invariant-loop-route
invariant-loop-route l =
    l.all.items ++ flat_map (routes_on l.next) l.route-iterator.rest.items
    ≡ flat_map (routes_on l.next) l.fn.routes.items
