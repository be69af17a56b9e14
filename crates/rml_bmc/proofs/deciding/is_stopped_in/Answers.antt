use Rattle.std.proofs.Common.{sym, subst}
use Rattle.rml_command.specs.Models.{ModelTree}
use Rattle.rml_command.specs.Goals.{IsGoal, HasNone}
use Rattle.rml_command.specs.declared.goal.Goal.{Goal}
use Rattle.rml_command.specs.declared.goal.About.TheVariants as about
use Rattle.walk_model.specs.WalkModels.{walk_goal}
use Rattle.rml_bmc.proofs.deciding.is_stopped_in.Goals as goal

pub settle_in-requires : goal.settle_in-requires
settle_in-requires c =
    let is = c.stopped_model_law.ensures c.args.checked.now c.args.legs.now c.model-checked.ensures.checked
    c.requires.legs c.requires.goes_on in
    record {
      goal = subst (λ (g : Goal). IsGoal c.args.model.now g) (sym c.goal_of-goal.ensures)
          (subst (λ (w : ModelTree). IsGoal w (walk_goal about.Abort)) (sym c.requires.model) is.is_goal);
    }

pub returns-in-Holds : goal.returns-in-Holds
returns-in-Holds c = λ e.
    let is = c.stopped_model_law.ensures c.args.checked.now c.args.legs.now c.model-checked.ensures.checked
    c.requires.legs c.requires.goes_on in
    is.none (subst (λ (w : ModelTree). HasNone w w.conjectures (walk_goal about.Abort)) c.requires.model
    (subst (λ (g : Goal). HasNone c.args.model.now c.args.model.now.conjectures g) c.goal_of-goal.ensures
    (rw c.in-Holds.is at c.in_ok-settle_in.ensures).1))
