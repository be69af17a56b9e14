-- What is found by a lean sentence of a goal where the structures must satisfy further sentences, and what is built of
-- the goal once, whatever these are.
use Rattle.std.specs.Prelude.{◌≡◌, true, false, List, Option, Some, None}
use Rattle.fol_sig.specs.Tables.{Declared}
use Rattle.fol_formula.specs.Syntax.{FormTree}
use Rattle.rml_command.specs.Models.{ModelTree}
use Rattle.rml_command.specs.declared.goal.Goal.{Goal}
use Rattle.rml_wp.specs.declared.premises.Premises.TheVariants.{Affected, All}
use Rattle.rml_wp.specs.Preconditions.{answered, goal_precondition, goal_passes_limit}
use Rattle.rml_wp.specs.Added.{refuting_where}
use Rattle.ea_decide.specs.declared.decided.Passed.{Passed}
use Rattle.limits.specs.Ceilings.{Ceilings}
use Rattle.ea_decide.specs.Decisions.{IsOver}
use Rattle.pruned_decide.specs.Decisions.{lean_signature, lean_sentence, HasManyConstants}
use Rattle.obligation_decide.specs.Restricted.{HasNoneWhere, IsFailingWhere}
use Rattle.lean_decide.specs.Lean.{affected_refuting}
use Rattle.lean_decide.specs.declared.prepared.Prepared.{Prepared}
use Rattle.lean_decide.specs.declared.seeking.Sought.{Sought}
use Rattle.lean_decide.specs.declared.seeking.Sought.TheVariants.{Nowhere, Found, Open}

-- The goal passes the limit of formulas by the affected premises; or there are too many constants in its refuting
-- sentence with these further parts; or the lean form of that passes this limit, or spends the budget.
pub data IsOpenWhere (limits : Ceilings) (m : ModelTree) (more : List FormTree) (goal : Goal) : Type 0 where
  formula : goal_passes_limit Affected m goal ≡ true → IsOpenWhere limits m more goal
  constants : HasManyConstants (answered m goal) (refuting_where Affected m m.conjectures more goal)
      → IsOpenWhere limits m more goal
  over : (passed : Passed)
      → IsOver limits (lean_signature (answered m goal) (refuting_where Affected m m.conjectures more goal))
      (lean_sentence (answered m goal) (refuting_where Affected m m.conjectures more goal)) passed
      → IsOpenWhere limits m more goal

-- The goal has no counterexample in such a structure, or this one; or that is left open.
abbrev pub IsSought : Ceilings → ModelTree → List FormTree → Goal → Sought → Type 0
IsSought limits m more goal Nowhere = HasNoneWhere m more goal
IsSought limits m more goal (Found shown) = IsFailingWhere limits m more goal shown
IsSought limits m more goal Open = IsOpenWhere limits m more goal

-- the refuting sentence with the affected premises, behind the signature that it is over, or the goal passes the limit
-- of formulas by these premises
abbrev pub IsAffected : ModelTree → Goal → Option (Declared × FormTree) → Type 0
IsAffected m goal None = goal_passes_limit Affected m goal ≡ true
IsAffected m goal (Some p) = (p.0 ≡ answered m goal) × (p.1 ≡ affected_refuting m goal)

-- the precondition with all premises, behind its signature, or the goal passes the limit of formulas
abbrev pub IsCounted : ModelTree → Goal → Option (Declared × FormTree) → Type 0
IsCounted m goal None = goal_passes_limit All m goal ≡ true
IsCounted m goal (Some p) =
    (p.0 ≡ answered m goal) × (p.1 ≡ goal_precondition All m goal) × (goal_passes_limit All m goal ≡ false)

-- both, as they are built once, whatever the further sentences are
pub record IsPrepared (m : ModelTree) (goal : Goal) (prepared : Prepared) : Type 0 where
  pub affected : IsAffected m goal prepared.affected
  pub precondition : IsCounted m goal prepared.precondition
