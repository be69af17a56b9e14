-- What the clauses of a goal are, and what they say of it.
use Rattle.std.specs.Prelude.{◌↔◌, Some, None}
use Rattle.cnf_base.specs.Formulas.{Formula, IsUnsatisfiable}
use Rattle.cnf_base.specs.Writing.{CanWrite}
use Rattle.rml_command.specs.Models.{ModelTree}
use Rattle.rml_command.specs.Goals.{HasNone}
use Rattle.rml_command.specs.declared.goal.Goal.{Goal}
use Rattle.ea_decide.specs.GroundForm.{IsClauseForm}
use Rattle.ea_decide.specs.Laws.{IsSatisfiable}
use Rattle.limits.specs.Ceilings.{Ceilings}
use Rattle.rml_wp.specs.Preconditions.{answered}
use Rattle.obligation_decide.specs.GoalPassing.{refuting_sentence, PassesFirst}
use Rattle.goal_clauses.specs.Laws.{HasCounterexample}
use Rattle.goal_clauses.specs.declared.GoalClauses.{GoalClauses}
use Rattle.goal_clauses.specs.declared.GoalClauses.TheVariants.{Written, Over}

-- The clauses of the goal's refuting sentence. Truth values satisfy them exactly where the goal has a counterexample;
-- that none do, whoever shows it, is that the goal has none.
pub record AreClausesOf (m : ModelTree) (goal : Goal) (f : Formula) : Type 0 where
  pub form : IsClauseForm (answered m goal) (refuting_sentence m goal) f
  pub exact : IsSatisfiable f ↔ HasCounterexample m goal
  pub refute : IsUnsatisfiable f ↔ HasNone m m.conjectures goal

-- they are answered where the goal passes no limit by its size, and then they can be written as a text; or the first
-- limit that it passes
abbrev pub AreGoalClauses : Ceilings → ModelTree → Goal → GoalClauses → Type 0
AreGoalClauses limits m goal (Written f) =
    PassesFirst limits m m.conjectures goal None × AreClausesOf m goal f × CanWrite f
AreGoalClauses limits m goal (Over c) = PassesFirst limits m m.conjectures goal (Some c)
