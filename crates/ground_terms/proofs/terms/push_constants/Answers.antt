use Rattle.std.proofs.Common.{◌<◌, length}
use Rattle.ground_terms.proofs.Rows.{at-number}
use Rattle.ground_terms.proofs.terms.push_constants.Goals as goal

pub push_constant-requires : goal.push_constant-requires
push_constant-requires c =
    at-number (λ f. f < length c.args.signature.now.functions) c.args.functions.now c.loop-function.function-index
    (record { 0 = 0 }) c.requires c.loop-function-test.true
