use Rattle.std.proofs.Common.{string_bytes}
use Rattle.std.specs.Prelude.{encode_utf8_all}
use Rattle.json_values.proofs.Loops.{character_turn}
use Rattle.json_values.proofs.value.Json.text.Goals as goal

pub loop-rest-preserved : goal.loop-rest-preserved
loop-rest-preserved c =
    character_turn c.loop-rest.rest.now (encode_utf8_all c.args.bytes.now) (string_bytes c.loop-rest.text)
    (string_bytes c.push.new.self) c.from.result c.in-len1-up.len_at_least c.from.ensures c.in_ok-push.ensures.bytes
    c.loop-rest.invariant
