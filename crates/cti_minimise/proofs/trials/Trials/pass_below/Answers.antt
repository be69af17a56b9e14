use Rattle.std.proofs.Common.{arith}
use Rattle.cti_minimise.proofs.Attempts.{pass-next, pass-fewer}
use Rattle.cti_minimise.proofs.trials.Trials.pass_below.Goals as goal

pub loop-most-init : goal.loop-most-init
loop-most-init c = λ n least below. absurd (omega (arith, least, below))

pub loop-most-preserved : goal.loop-most-preserved
loop-most-preserved c =
    let b = c.args.bounds.now in
    pass-next c.args.self.now b.numbers.now b.place c.args.lowest c.loop-most.most
    (rw c.in-Within.is at c.in_ok-measure.ensures).0 c.loop-most.invariant

pub returns : goal.returns
returns c = λ yes.
    let b = c.args.bounds.now in
    pass-fewer c.args.self.now b.numbers.now b.place c.args.lowest c.loop-most.most b.most (omega arith)
    c.loop-most.invariant
