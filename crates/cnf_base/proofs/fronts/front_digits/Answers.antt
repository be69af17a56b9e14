use Rattle.std.proofs.Common.{◌≡◌, true, get_or, arith}
use Rattle.std.proofs.lemmas.Grind.{common_steps}
use Rattle.base.specs.Bytes.{is_digit}
use Rattle.cnf_base.proofs.Prefixes.{IsOver, one_more}
use Rattle.cnf_base.proofs.fronts.front_digits.Goals as goal

pub loop-rest-preserved : goal.loop-rest-preserved
loop-rest-preserved c =
    let i = c.loop-rest.invariant in
    let digit : is_digit (get_or c.loop-rest.rest.now 0 0)
    ≡ true = grind (arith, common_steps, c.is_digit.ensures, c.if-not-is_digit.false) in
    let before : IsOver c.args.bytes.now c.loop-rest.rest.now c.loop-rest.count c.loop-rest.value =
    record { rest_is = i.rest; within = i.within; len = i.len; same = i.value; small = i.small } in
    let more = one_more c.args.bytes.now c.loop-rest.rest.now c.loop-rest.count c.loop-rest.value before
    (omega arith) digit (omega arith) in
    record { rest = more.rest_is; within = more.within; len = more.len; value = more.same; small = more.small }
