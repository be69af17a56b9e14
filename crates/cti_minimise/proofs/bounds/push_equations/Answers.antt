use Rattle.std.proofs.Common.{◌≡◌, ◌-◌, suc, ◌∙◌, arith}
use Rattle.cti_minimise.proofs.Pushing.{pushed-with}
use Rattle.cti_minimise.proofs.bounds.push_equations.Goals as goal

pub loop-left-preserved : goal.loop-left-preserved
loop-left-preserved c = λ others.
    let next : suc (c.loop-left.left - 1) ≡ c.loop-left.left = omega arith in
    pushed-with c.lists.ensures.forms _ _ _ c.args.last _ _ others c.in_ok-push.ensures.items c.equation.ensures next
    ∙ c.loop-left.invariant others
