use Rattle.std.proofs.Common.{◌≡◌, ℕ, List, [], ◌∷◌, IfOk, rules}
use Rattle.std.specs.Prelude.{codes}
use Rattle.serde_json.specs.Data.{Data, string}
use Rattle.json_values.specs.Values.{number_data}
use Rattle.json_outcome.specs.GroupData.{least_data}
use Rattle.json_outcome.specs.ExecutionData.{first_or_null, execution_data}
use Rattle.json_outcome.proofs.Built.{joined, given}
use Rattle.json_outcome.proofs.report.with_failing.Goals as goal

pub returns : goal.returns
returns c =
    let m = c.args.checked.now in
    let told = first_or_null c.args.branches.now in
    let execution : List ℕ × Data = (codes "execution", execution_data m c.args.shown.now told) in
    let answer : List ℕ × Data = (codes "answer", string (codes "fails")) in
    let path : List ℕ × Data = (codes "path", number_data c.args.shown.now.trace.path) in
    let paths : List ℕ × Data = (codes "paths", number_data c.args.paths) in
    let least : List ℕ × Data = (codes "least", least_data m.names c.args.least.now) in
    let told : IfOk c.least_value.result (λ j. j ≡ least_data m.names c.args.least.now) = search rules in
    joined c.args.object c.with.result c.with-2.result (execution ∷ []) (answer ∷ path ∷ paths ∷ least ∷ [])
    (given c.args.object c.with.result c.execution_value.result execution.0 execution.1 c.execution_value.ensures
    c.with.ensures)
    (joined c.with.result c.with_word.result c.with-2.result (answer ∷ []) (path ∷ paths ∷ least ∷ [])
    c.with_word.ensures
    (joined c.with_word.result c.with_number.result c.with-2.result (path ∷ []) (paths ∷ least ∷ [])
    c.with_number.ensures
    (joined c.with_number.result c.with_number-2.result c.with-2.result (paths ∷ []) (least ∷ [])
    c.with_number-2.ensures
    (given c.with_number-2.result c.with-2.result c.least_value.result least.0 least.1 told c.with-2.ensures))))
