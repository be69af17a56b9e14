use Rattle.std.proofs.Common.{◌-◌, ◌∷◌, length, take, drop, sym, ap, ◌∙◌}
use Rattle.rml_houdini.specs.HoudiniText.{CanRender}
use Rattle.json_outcome.specs.ExecutionData.{first_or_null}
use Rattle.json_outcome.specs.HoudiniData.{dropped_data, drops_data}
use Rattle.json_outcome.proofs.Lists.{first_and_rest, known_behind, value_turn}
use Rattle.json_outcome.proofs.houdini.drop_values.Goals as goal

pub loop-rest-preserved : goal.loop-rest-preserved
loop-rest-preserved c =
    let m = c.args.checked.now in
    let xs = c.loop-rest.rest.now in
    let rest = take (length xs - 1) (drop 1 xs) in
    let given = c.loop-rest.given.now in
    let value = dropped_data m c.dropped-item.result (first_or_null given) in
    let is = first_and_rest xs c.dropped-item.result c.in-len1-up.len_at_least c.dropped-item.is in
    record {
      shown = known_behind (CanRender m) xs c.loop-rest.invariant.shown;
      drops = value_turn (drops_data m xs given) (drops_data m rest c.behind_first-given.result.now)
          (drops_data m c.args.drops.now c.args.branches.now) value c.loop-rest.list c.push.new.self c.dropped_value.result
          (ap (λ ys. drops_data m ys given) is
          ∙ ap (λ bs. value ∷ drops_data m rest bs) (sym c.behind_first-given.ensures)) c.dropped_value.ensures c.push.ensures
          c.loop-rest.invariant.drops;
    }
