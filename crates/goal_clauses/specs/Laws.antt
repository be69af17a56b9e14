-- The clauses of a goal of a checked model mean the goal.
use Rattle.std.specs.Prelude.{◌↔◌, ℕ, List}
use Rattle.fol_sig.specs.Tables.{Tables, IsSignature}
use Rattle.fol_sig.specs.Symbols.{AreSorted, symbols}
use Rattle.fol_sig.specs.Strata.{IsStrata}
use Rattle.cnf_base.specs.Formulas.{Formula, IsUnsatisfiable}
use Rattle.rml_command.specs.Models.{ModelTree}
use Rattle.rml_command.specs.Fragment.{IsChecked}
use Rattle.rml_command.specs.Goals.{IsGoal, IsCounterexample, HasNone}
use Rattle.rml_command.specs.declared.goal.Goal.{Goal}
use Rattle.rml_command.specs.declared.havoc.Havoc.{Havoc}
use Rattle.ea_decide.specs.GroundForm.{IsClauseForm}
use Rattle.ea_decide.specs.Laws.{IsSatisfiable}
use Rattle.rml_wp.specs.Preconditions.{answered}
use Rattle.obligation_decide.specs.GoalPassing.{refuting_sentence}

-- Where no truth values satisfy the clauses, the goal has no counterexample.
abbrev pub GoalClausesRefute : Type 0
GoalClausesRefute = (m : ModelTree) (goal : Goal) (order : List ℕ) (f : Formula) → IsChecked m
    → IsSignature m.signature → AreSorted (symbols m.signature) → IsStrata (symbols m.signature) order → IsGoal m goal
    → IsClauseForm (answered m goal) (refuting_sentence m goal) f → IsUnsatisfiable f → HasNone m m.conjectures goal

-- some structure, trace and values are a counterexample of the goal
abbrev pub HasCounterexample : ModelTree → Goal → Type 0
HasCounterexample m goal =
    (s : Tables) × (havocs : List Havoc) × (values : List ℕ) × IsCounterexample m m.conjectures goal s havocs values

-- Truth values satisfy the clauses exactly where the goal has a counterexample.
abbrev pub GoalClausesAreExact : Type 0
GoalClausesAreExact = (m : ModelTree) (goal : Goal) (order : List ℕ) (f : Formula) → IsChecked m
    → IsSignature m.signature → AreSorted (symbols m.signature) → IsStrata (symbols m.signature) order → IsGoal m goal
    → IsClauseForm (answered m goal) (refuting_sentence m goal) f → IsSatisfiable f ↔ HasCounterexample m goal
