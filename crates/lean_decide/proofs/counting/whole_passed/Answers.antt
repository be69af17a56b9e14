use Rattle.limits.specs.Ceilings.{ceilings}
use Rattle.lean_decide.proofs.SameLimits.{over_by, within_by}
use Rattle.lean_decide.proofs.counting.whole_passed.Goals as goal

pub returns-in-Over-clause-passed : goal.returns-in-Over-clause-passed
returns-in-Over-clause-passed c =
    over_by c.sentence_law.ensures.alone (ceilings c.args.limits.now) c.args.checked.now c.args.goal.now _ _
    c.in-Over.is
    c.in_ok-cause.ensures.measured

pub returns-in-Within-clause-passed : goal.returns-in-Within-clause-passed
returns-in-Within-clause-passed c =
    within_by c.sentence_law.ensures.alone (ceilings c.args.limits.now) c.args.checked.now c.args.goal.now _ _
    c.in-Within.is c.in_ok-cause.ensures.measured
