use Rattle.limits.specs.Ceilings.{ceilings}
use Rattle.obligation_decide.proofs.Restricting.{unrestricted}
use Rattle.obligation_decide.proofs.decide.Goals as goal

pub returns : goal.returns
returns c =
    unrestricted (ceilings c.args.limits.now) c.args.checked.now c.args.goal.now c.sentence_law.ensures.alone _
    c.in_ok-decision.ensures
