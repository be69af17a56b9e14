use Rattle.command_line.proofs.Numbers.{number_some, number_none}
use Rattle.command_line.proofs.number.number_in.Goals as goal

pub returns-then-number-high-clause-value : goal.returns-then-number-high-clause-value
returns-then-number-high-clause-value c =
    let parsed = c.in-Ok.ensures.value.0 in
    number_some c.args.low c.args.high c.in-Ok.number c.args.text.now parsed.0.0 parsed.0.1 parsed.1
    c.if-low-number.true c.if-number-high.true

pub returns-in-Err-clause-value : goal.returns-in-Err-clause-value
returns-in-Err-clause-value c = number_none c.args.low c.args.high c.args.text.now c.in-Err.ensures.value.0
