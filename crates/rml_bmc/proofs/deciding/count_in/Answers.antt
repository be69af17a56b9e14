use Rattle.std.proofs.Common.{None, subst}
use Rattle.rml_command.specs.Models.{ModelTree}
use Rattle.limits.specs.Ceilings.{ceilings}
use Rattle.lean_decide.specs.Settled.{IsPassing}
use Rattle.walk_model.specs.WalkModels.{walk_goal}
use Rattle.rml_bmc.proofs.Transfers.{passes, left_open}
use Rattle.rml_bmc.proofs.deciding.count_in.Goals as goal

pub returns-in-Some : goal.returns-in-Some
returns-in-Some c =
    let limits = ceilings c.args.limits.now in
    let m = c.args.checked.now in
    let walk = c.args.walk.now in
    let is = c.walk_model_law.ensures.goals m walk c.model-checked.ensures.checked c.requires.walk in
    let here = subst (λ (w : ModelTree). IsPassing c.args.counted limits w (walk_goal walk.about) c.in_ok-cause.field-0)
    c.requires.model (rw c.goal_of-goal.ensures at c.in_ok-cause.ensures) in
    left_open limits m walk is c.args.counted c.in-Some.cause (rw c.in-Some.is at here).1

pub returns-in-None : goal.returns-in-None
returns-in-None c =
    let limits = ceilings c.args.limits.now in
    let m = c.args.checked.now in
    let walk = c.args.walk.now in
    let is = c.walk_model_law.ensures.goals m walk c.model-checked.ensures.checked c.requires.walk in
    let here = subst (λ (w : ModelTree). IsPassing c.args.counted limits w (walk_goal walk.about) c.in_ok-cause.field-0)
    c.requires.model (rw c.goal_of-goal.ensures at c.in_ok-cause.ensures) in (
      passes limits m walk is c.args.counted None (rw c.in-None.is at here),
      c.requires.none,
    )
