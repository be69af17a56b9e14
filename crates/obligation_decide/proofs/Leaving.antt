-- A goal that does not pass the limit of formulas: what its refuting sentence passes first, or spends, it does.
use Rattle.std.proofs.Common.{◌≡◌, Bool, false, Option, Some, None, refl, sym, subst}
use Rattle.std.specs.Prelude.{MatchBool}
use Rattle.fol_formula.specs.Syntax.{FormTree}
use Rattle.rml_command.specs.Models.{ModelTree}
use Rattle.rml_command.specs.declared.goal.Goal.{Goal}
use Rattle.rml_wp.specs.Preconditions.{answered, goal_passes_limit}
use Rattle.limits.specs.declared.cause.Cause.{Cause}
use Rattle.limits.specs.declared.cause.Cause.TheVariants as cause
use Rattle.ea_decide.specs.declared.decided.Passed.{Passed}
use Rattle.ea_decide.specs.declared.decided.Passed.TheVariants as passed
use Rattle.limits.specs.Ceilings.{Ceilings}
use Rattle.ea_decide.specs.Decisions.{IsOver}
use Rattle.obligation_decide.specs.GoalPassing.{cause_of, PassesAs, PassesFirstAs}
use Rattle.obligation_decide.specs.GoalDecisions.{IsLeftOpenAs}
use Rattle.rml_wp.specs.declared.premises.Premises.TheVariants.{All}

module _ (limits : Ceilings) (m : ModelTree) (goal : Goal) (p : FormTree) (within : goal_passes_limit All m goal ≡ false)
  where
    pub passes_first : (first : Option Cause) → PassesAs limits (answered m goal) p first
        → PassesFirstAs limits m goal p first
    passes_first first h =
        subst (λ (b : Bool). MatchBool b (first ≡ Some cause.Formula) (PassesAs limits (answered m goal) p first))
        (sym within) h

    pub left_open : (q : Passed) → IsOver limits (answered m goal) p q → IsLeftOpenAs limits m goal p (cause_of q)
    left_open (passed.Terms n) h = passes_first (Some (cause.Terms n)) (Some (passed.Terms n), h, refl)
    left_open (passed.GroundSize n) h = passes_first (Some (cause.Ground n)) (Some (passed.GroundSize n), h, refl)
    left_open (passed.Conflicts n) h = (passes_first None (None, h.0, refl), h.1, h.2)
