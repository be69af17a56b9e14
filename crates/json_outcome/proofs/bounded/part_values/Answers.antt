use Rattle.std.proofs.Common.{◌-◌, length, take, drop, map, ap}
use Rattle.fol_sig.specs.Symbols.{symbols}
use Rattle.rml_bmc.specs.Shown.{EndFits}
use Rattle.json_outcome.specs.BoundedData.{part_data}
use Rattle.json_outcome.proofs.Lists.{first_and_rest, known_behind, value_turn}
use Rattle.json_outcome.proofs.bounded.part_values.Goals as goal

pub loop-rest-preserved : goal.loop-rest-preserved
loop-rest-preserved c =
    let m = c.args.checked.now in
    let xs = c.loop-rest.rest.now in
    let is = first_and_rest xs c.part-item.result c.in-len1-up.len_at_least c.part-item.is in
    record {
      fit = known_behind (λ part. EndFits (symbols m.signature) part.end) xs c.loop-rest.invariant.fit;
      parts = value_turn (map (part_data m c.args.start.now) xs) (map (part_data m c.args.start.now) (take (length xs - 1) (drop 1 xs)))
          (map (part_data m c.args.start.now) c.args.parts.now) (part_data m c.args.start.now c.part-item.result) c.loop-rest.list c.push.new.self
          c.part_value.result (ap (map (part_data m c.args.start.now)) is) c.part_value.ensures c.push.ensures c.loop-rest.invariant.parts;
    }
