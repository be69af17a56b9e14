use Rattle.std.proofs.Common.{Bool, sym, ap, ◌∙◌, subst}
use Rattle.std.specs.Prelude.{IsTrue}
use Rattle.base.specs.Because.{Because}
use Rattle.fol_pool.specs.Trees.{a_form}
use Rattle.rml_command.specs.Fresh.{with_fresh}
use Rattle.rml_command.specs.Models.{ModelTree}
use Rattle.rml_wp.specs.declared.premises.Premises.TheVariants.{All}
use Rattle.rml_wp.specs.Preconditions.{path_or_none}
use Rattle.pool_wp.proofs.Backward.{goal_tree, goal_limit}
use Rattle.pool_wp.proofs.goal.precondition.Goals as goal

pub along-requires-clause-answered : goal.along-requires-clause-answered
along-requires-clause-answered c =
    c.in_ok-answered.ensures
    ∙ ap (with_fresh c.args.checked.now.signature) (ap path_or_none c.path-path.ensures.path)
    ∙ ap (λ (m : ModelTree). with_fresh m.signature c.path-path.result) (sym c.model-model.ensures.value)

pub returns-in-Ok-clause-node : goal.returns-in-Ok-clause-node
returns-in-Ok-clause-node c =
    let there = c.in-Ok.ensures.node in (
      there.0,
      there.1 ∙ ap a_form (goal_tree All c.model-model.result.now c.args.checked.now c.args.goal.now
          c.path-path.result c.model-model.ensures.value (sym (ap path_or_none c.path-path.ensures.path))),
    )

pub returns-in-Ok-clause-within : goal.returns-in-Ok-clause-within
returns-in-Ok-clause-within c =
    sym (goal_limit All c.model-model.result.now c.args.checked.now c.args.goal.now c.path-path.result
    c.model-model.ensures.value (sym (ap path_or_none c.path-path.ensures.path)))
    ∙ c.in-Ok.ensures.within

pub returns-in-Err-clause-limit : goal.returns-in-Err-clause-limit
returns-in-Err-clause-limit c =
    subst (λ (b : Bool). Because (λ _. IsTrue b) c.in-Err.refused)
    (goal_limit All c.model-model.result.now c.args.checked.now c.args.goal.now c.path-path.result
    c.model-model.ensures.value (sym (ap path_or_none c.path-path.ensures.path))) c.in-Err.ensures.limit
