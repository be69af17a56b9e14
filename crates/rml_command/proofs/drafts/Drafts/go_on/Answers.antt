use Rattle.std.proofs.Common.{ap, ◌∙◌}
use Rattle.std.specs.List.{flat_map}
use Rattle.rml_command.specs.Spans.{routes_on}
use Rattle.rml_command.proofs.RouteLists.{stops_alone, alone}
use Rattle.rml_command.proofs.drafts.Drafts.go_on.Goals as goal

pub of-requires : goal.of-requires
of-requires c =
    stops_alone c.in_ok-routes.routes.items c.deref-2.result.now _ c.some_goes_on-onward.result c.new.ensures
    c.deref-2.ensures.value c.some_goes_on-onward.ensures

pub returns : goal.returns
returns c =
    alone c.in_ok-routes.routes.items c.of.result _ c.new.ensures c.of.ensures
    ∙ c.in_ok-routes.ensures
    ∙ ap (λ next. flat_map (routes_on next) c.in_ok-into_routes.field-0.items) c.deref.ensures.value
    ∙ ap (flat_map (routes_on c.args.next.items)) c.in_ok-into_routes.ensures
