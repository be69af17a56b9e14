use Rattle.std.proofs.Common.{map, sym}
use Rattle.json_values.specs.Values.{number_data}
use Rattle.json_values.proofs.Loops.{value_turn}
use Rattle.json_values.proofs.shapes.numbers.Goals as goal

pub loop-rest-preserved : goal.loop-rest-preserved
loop-rest-preserved c =
    value_turn number_data c.loop-rest.rest.now 0 (map number_data c.args.numbers.now) c.loop-rest.list c.push.new.self
    c.in-len1-up.len_at_least (rw (sym c.number.ensures) c.push.ensures) c.loop-rest.invariant
