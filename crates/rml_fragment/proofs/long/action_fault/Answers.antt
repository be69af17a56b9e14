use Rattle.std.proofs.Common.{◌≡◌, ◌-◌, ◌∷◌, length, map, get_or, take, drop, ap}
use Rattle.std.specs.Prelude.{◌<◌}
use Rattle.std.proofs.lemmas.List.{length-map}
use Rattle.rml_command.specs.View.{command}
use Rattle.rml_fragment.specs.Faults.{HasManyPaths}
use Rattle.rml_fragment.proofs.Placed.{taken_apart, number_apart, goes_on, ends, places_end}
use Rattle.rml_fragment.proofs.long.action_fault.Goals as goal

pub returns-in_default-left : goal.returns-in_default-left
returns-in_default-left c =
    places_end HasManyPaths (map command c.args.actions.now) c.args.places.now (map command c.loop-rest.rest.now)
    c.loop-rest.left.now c.loop-rest.first c.in_default-left.len_below c.loop-rest.invariant

pub loop-rest-preserved : goal.loop-rest-preserved
loop-rest-preserved c =
    let rest = c.loop-rest.rest.now in
    let left = c.loop-rest.left.now in
    let action = c.action-item.result in
    let parts : map command rest ≡ command action ∷ map command (take (length rest - 1) (drop 1 rest)) =
    ap (map command) (taken_apart rest action c.in-len1-up.len_at_least c.action-item.is) in
    goes_on HasManyPaths (map command c.args.actions.now) c.args.places.now (map command rest) _ left _ (command action)
    (get_or left 0 0) c.loop-rest.first c.block_fault.result c.earlier-first.result parts
    (number_apart left c.in-len1-up-left.len_at_least) c.loop-rest.invariant c.block_fault.ensures
    c.earlier-first.ensures

pub returns : goal.returns
returns c =
    let none : length (map command c.loop-rest.rest.now) < 1 =
    rw (length-map c.loop-rest.rest.now command) c.in_default.len_below in
    ends HasManyPaths (map command c.args.actions.now) c.args.places.now (map command c.loop-rest.rest.now)
    c.loop-rest.left.now c.loop-rest.first none c.loop-rest.invariant
