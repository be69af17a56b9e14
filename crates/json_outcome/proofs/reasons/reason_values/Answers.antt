use Rattle.std.proofs.Common.{◌-◌, length, take, drop, map, ap}
use Rattle.model_reasons.specs.Laws.{CarriedIsShown}
use Rattle.json_outcome.specs.ReasonsData.{reason_data}
use Rattle.json_outcome.proofs.Lists.{first_and_rest, known_behind, value_turn}
use Rattle.json_outcome.proofs.reasons.reason_values.Goals as goal

pub loop-rest-preserved : goal.loop-rest-preserved
loop-rest-preserved c =
    let m = c.args.checked.now in
    let xs = c.loop-rest.rest.now in
    let is = first_and_rest xs c.reason-item.result c.in-len1-up.len_at_least c.reason-item.is in
    record {
      shown = known_behind (λ r. CarriedIsShown m r.carried) xs c.loop-rest.invariant.shown;
      values = value_turn (map (reason_data m) xs) (map (reason_data m) (take (length xs - 1) (drop 1 xs)))
          (map (reason_data m) c.args.reasons.now) (reason_data m c.reason-item.result) c.loop-rest.list c.push.new.self
          c.reason_value.result (ap (map (reason_data m)) is) c.reason_value.ensures c.push.ensures c.loop-rest.invariant.values;
    }
