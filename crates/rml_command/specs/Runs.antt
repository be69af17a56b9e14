-- Runs of a model: an outcome of init, outcomes of actions in any order, and at most one outcome of final.
use Rattle.std.specs.Prelude.{◌≡◌, ◌⊎◌, ℕ, true, false, List, [], ◌∷◌, Option, Some, None, slice_get}
use Rattle.fol_sig.specs.Tables.{Tables}
use Rattle.fol_sig.specs.Symbols.{FitsStructure, symbols}
use Rattle.fol_formula.specs.Syntax.{FormTree}
use Rattle.rml_command.specs.Trees.{CommandTree}
use Rattle.fol_formula.specs.Sentences.{is_true, satisfies}
use Rattle.rml_command.specs.Outcomes.{Outcome, ended, aborted, HasOutcome}
use Rattle.rml_command.specs.Models.{ModelTree}

-- one outcome of an action, by the action's number
pub record Step : Type 0 where
  pub action : ℕ
  pub outcome : Outcome

-- a structure to begin with, an outcome of init, outcomes of actions, and perhaps one of final
pub record Run : Type 0 where
  pub start : Tables
  pub first : Outcome
  pub steps : List Step
  pub last : Option Outcome

-- the outcome is one of the block from the structure in which the last one ended; behind an abort there is none
abbrev pub From : ModelTree → CommandTree → Outcome → Outcome → Type 0
From m block (ended s) outcome = HasOutcome m.axioms block s outcome
From m block aborted outcome = ⊥

-- each step is an outcome of its action from the end of the one before, and `to` is the last outcome
abbrev pub Leads : ModelTree → Outcome → List Step → Outcome → Type 0
Leads m from [] to = to ≡ from
Leads m from (step ∷ steps) to = (action : CommandTree) × (slice_get m.actions step.action ≡ Some action)
    × From m action from step.outcome × Leads m step.outcome steps to

-- at most one outcome of final
abbrev pub Closes : ModelTree → Outcome → Option Outcome → Type 0
Closes m from None = Unit {0}
Closes m from (Some outcome) = From m m.last from outcome

-- A run of a model begins in a structure of its signature that satisfies the axioms. Sizes are any positive numbers,
-- and there are any number of steps.
pub record IsRun (m : ModelTree) (run : Run) : Type 0 where
  pub structure : FitsStructure (symbols m.signature) run.start
  pub lawful : satisfies run.start m.axioms ≡ true
  pub init : HasOutcome m.axioms m.init run.start run.first
  pub to : Outcome
  pub leads : Leads m run.first run.steps to
  pub closes : Closes m to run.last

-- an outcome of the run is an abort
abbrev pub SomeAborts : List Step → Type 0
SomeAborts [] = ⊥
SomeAborts (step ∷ steps) = (step.outcome ≡ aborted) ⊎ SomeAborts steps

-- init, an action or final of the run aborts
abbrev pub Aborts : Run → Type 0
Aborts run = (run.first ≡ aborted) ⊎ SomeAborts run.steps ⊎ (run.last ≡ Some aborted)

-- a conjecture is false in the structure in which it ends
abbrev pub BreaksAt : ModelTree → Outcome → Type 0
BreaksAt m aborted = ⊥
BreaksAt m (ended s) = (k : ℕ) × (c : FormTree) × (slice_get m.conjectures k ≡ Some c) × (is_true s c ≡ false)

-- a conjecture is false at the end of a step
abbrev pub SomeBreaks : ModelTree → List Step → Type 0
SomeBreaks m [] = ⊥
SomeBreaks m (step ∷ steps) = BreaksAt m step.outcome ⊎ SomeBreaks m steps

-- a conjecture is false at an end of init or of an action
abbrev pub Breaks : ModelTree → Run → Type 0
Breaks m run = BreaksAt m run.first ⊎ SomeBreaks m run.steps

-- A model is safe where no run of it aborts or breaks a conjecture.
pub record Safe (m : ModelTree) : Type 0 where
  pub never_aborts : (run : Run) → IsRun m run → Aborts run → ⊥
  pub never_breaks : (run : Run) → IsRun m run → Breaks m run → ⊥
