-- Which limit a goal passes where some conjectures hold before its stage in place of all, by the counts of its whole
-- refuting sentence, or of its lean one.
use Rattle.std.specs.Prelude.{◌≡◌, ℕ, MatchBool, List, Option, Some, None}
use Rattle.fol_formula.specs.Syntax.{FormTree}
use Rattle.rml_command.specs.Models.{ModelTree}
use Rattle.rml_command.specs.declared.goal.Goal.{Goal}
use Rattle.rml_wp.specs.declared.premises.Premises.TheVariants.{Affected}
use Rattle.limits.specs.declared.cause.Cause.TheVariants as cause
use Rattle.rml_wp.specs.Preconditions.{answered, goal_passes_limit, refuting}
use Rattle.rml_command.specs.InductiveSets.{conjectures_of}
use Rattle.limits.specs.declared.cause.Cause.{Cause}
use Rattle.ea_decide.specs.declared.decided.Passed.{Passed}
use Rattle.limits.specs.Ceilings.{Ceilings}
use Rattle.ea_decide.specs.Passing.{Passes}
use Rattle.ea_decide.specs.Decisions.{SpendsBudget}
use Rattle.pruned_decide.specs.Decisions.{lean_signature, lean_sentence}
use Rattle.obligation_decide.specs.GoalPassing.{first_cause, PassesFirst as WholePassesFirst}
use Rattle.lean_decide.specs.declared.settling.Counted.{Counted}
use Rattle.lean_decide.specs.declared.settling.Counted.TheVariants.{Whole, Lean}
use Rattle.obligation_decide.specs.GoalDecisions.{IsLeftOpen as IsWholeLeftOpen}

-- the refuting sentence of the goal in which the affected axioms alone are premises behind a step
abbrev pub affected_with : ModelTree → List ℕ → Goal → FormTree
affected_with m held goal = refuting Affected m (conjectures_of m held) goal

module _ (limits : Ceilings) (m : ModelTree) (held : List ℕ) (goal : Goal) where
  -- its lean sentence passes this limit first, or none
  abbrev pub LeanPasses : Option Passed → Type 0
  LeanPasses p =
      Passes limits (lean_signature (answered m goal) (affected_with m held goal))
      (lean_sentence (answered m goal) (affected_with m held goal)) p

  -- The first limit that the goal passes by its lean counts, if it passes one: that of formulas, by the preconditions
  -- with the affected axioms as premises; or one that its lean sentence passes.
  abbrev pub LeanPassesFirst : Option Cause → Type 0
  LeanPassesFirst first =
      MatchBool (goal_passes_limit Affected m goal) (first ≡ Some cause.Formula)
      ((p : Option Passed) × LeanPasses p × (first ≡ first_cause p))

  -- it passes none by its size, and the budget of conflicts is spent on its lean clauses; or it passes this limit
  abbrev pub IsLeanLeftOpen : Cause → Type 0
  IsLeanLeftOpen (cause.Conflicts n) =
      LeanPassesFirst None × (n ≡ limits.conflicts)
      × SpendsBudget (lean_signature (answered m goal) (affected_with m held goal))
      (lean_sentence (answered m goal) (affected_with m held goal)) n
  IsLeanLeftOpen c = LeanPassesFirst (Some c)

-- the same by either counts
abbrev pub PassesFirst : Counted → Ceilings → ModelTree → List ℕ → Goal → Option Cause → Type 0
PassesFirst Whole limits m held goal first = WholePassesFirst limits m (conjectures_of m held) goal first
PassesFirst Lean limits m held goal first = LeanPassesFirst limits m held goal first

-- the goal is left open for this cause, by either counts
abbrev pub IsLeftOpen : Counted → Ceilings → ModelTree → List ℕ → Goal → Cause → Type 0
IsLeftOpen Whole limits m held goal c = IsWholeLeftOpen limits m (conjectures_of m held) goal c
IsLeftOpen Lean limits m held goal c = IsLeanLeftOpen limits m held goal c
