use Rattle.std.proofs.Common.{arith}
use Rattle.cnf_base.proofs.Prefixes.{negative_front}
use Rattle.cnf_base.proofs.fronts.front_number.Goals as goal

pub returns-then-first-eq45-clause-value : goal.returns-then-first-eq45-clause-value
returns-then-first-eq45-clause-value c =
    negative_front c.args.bytes.now c.in-Some.found.2
    (omega arith) c.if-first-eq45.true c.in-Some.ensures.value c.if-value-eq0.false
