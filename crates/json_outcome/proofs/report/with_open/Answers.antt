use Rattle.std.proofs.Common.{[], ◌∷◌}
use Rattle.std.specs.Prelude.{codes}
use Rattle.serde_json.specs.Data.{string}
use Rattle.json_values.specs.Values.{number_data}
use Rattle.json_outcome.specs.GroupData.{cause_data}
use Rattle.json_outcome.proofs.Built.{joined, given}
use Rattle.json_outcome.proofs.report.with_open.Goals as goal

pub returns : goal.returns
returns c =
    let cause = cause_data c.args.cause.now in
    joined c.args.object c.with_word.result c.with.result ((codes "answer", string (codes "undecided")) ∷ [])
    ((codes "path", number_data c.args.path) ∷ (codes "cause", cause) ∷ []) c.with_word.ensures
    (joined c.with_word.result c.with_number.result c.with.result ((codes "path", number_data c.args.path) ∷ [])
    ((codes "cause", cause) ∷ []) c.with_number.ensures
    (given c.with_number.result c.with.result c.cause_value.result (codes "cause") cause c.cause_value.ensures
    c.with.ensures))
