use Rattle.std.proofs.Common.{◌-◌, arith}
use Rattle.renumbering.proofs.Numbers.{rising_at}
use Rattle.renumbering.proofs.names.name_of.Goals as goal

pub new-requires : goal.new-requires
new-requires c =
    let v = c.variable.ensures.variable in
    let a = c.requires.literal.0 in
    let b = c.requires.literal.1 in
    let t = rising_at 2147483647 0 c.args.names.now (c.variable.result - 1) c.requires.rising (omega arith) in
    let y = t.1 in
    (t.0, omega arith)
