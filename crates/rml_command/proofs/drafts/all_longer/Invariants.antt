use Rattle.std.proofs.Common.{◌≡◌, ◌++◌, map}
use Rattle.rml_command.specs.Spans.{longer}
use Rattle.rml_command.proofs.drafts.all_longer.Given as goal

abbrev pub invariant-loop-route : goal.invariant-loop-route
invariant-loop-route l =
    l.all.items ++ map (λ r. longer r l.tail) l.route-iterator.rest.items ≡ map (λ r. longer r l.tail) l.fn.routes.items
