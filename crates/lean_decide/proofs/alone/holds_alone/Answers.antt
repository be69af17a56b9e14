use Rattle.lean_decide.proofs.OwnConjecture.{kept_alone}
use Rattle.lean_decide.proofs.alone.holds_alone.Goals as goal

pub returns-in_ok-kept-in-Action-Conjecture : goal.returns-in_ok-kept-in-Action-Conjecture
returns-in_ok-kept-in-Action-Conjecture c = λ kept.
    kept_alone c.answered_law.ensures.cuts c.args.checked.now c.args.goal.now
    c.model-model.ensures.checked.model.fits c.answered_goal.ensures.signature c.requires.goal
    c.in-Action-Conjecture.field-0-0
    c.in-Action-Conjecture.number c.in-Action-Conjecture.is-0 c.in-Action-Conjecture.is-1
    (c.in_ok-kept-in-Action-Conjecture.ensures kept)
