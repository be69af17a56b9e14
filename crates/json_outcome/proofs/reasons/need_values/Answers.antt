use Rattle.std.proofs.Common.{◌-◌, length, take, drop, map, ap}
use Rattle.model_reasons.specs.Laws.{LackIsShown}
use Rattle.json_outcome.specs.ReasonsData.{need_data}
use Rattle.json_outcome.proofs.Lists.{first_and_rest, known_behind, value_turn}
use Rattle.json_outcome.proofs.reasons.need_values.Goals as goal

pub loop-rest-preserved : goal.loop-rest-preserved
loop-rest-preserved c =
    let m = c.args.checked.now in
    let xs = c.loop-rest.rest.now in
    let is = first_and_rest xs c.need-item.result c.in-len1-up.len_at_least c.need-item.is in
    record {
      shown = known_behind (λ n. LackIsShown m n.lack) xs c.loop-rest.invariant.shown;
      values = value_turn (map (need_data m) xs) (map (need_data m) (take (length xs - 1) (drop 1 xs)))
          (map (need_data m) c.args.needs.now) (need_data m c.need-item.result) c.loop-rest.list c.push.new.self
          c.need_value.result (ap (map (need_data m)) is) c.need_value.ensures c.push.ensures c.loop-rest.invariant.values;
    }
