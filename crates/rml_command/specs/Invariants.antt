-- Inductive invariants of a model, and what is true in a run.
use Rattle.std.specs.Prelude.{◌≡◌, ℕ, true, List, slice_get, Some}
use Rattle.std.specs.List.{AllByRecursion}
use Rattle.fol_sig.specs.Tables.{Tables}
use Rattle.fol_sig.specs.Symbols.{FitsStructure, symbols}
use Rattle.fol_formula.specs.Syntax.{FormTree}
use Rattle.fol_formula.specs.Sentences.{satisfies}
use Rattle.rml_command.specs.Trees.{CommandTree}
use Rattle.rml_command.specs.Outcomes.{Outcome, ended, aborted, HasOutcome}
use Rattle.rml_command.specs.Models.{ModelTree}
use Rattle.rml_command.specs.Runs.{Run}

-- Sentences are together an inductive invariant where init ends only in structures that satisfy all of them, and each
-- action, from such a structure, too.
pub record IsInductiveInvariant (m : ModelTree) (sentences : List FormTree) : Type 0 where
  pub init : (s new : Tables) → FitsStructure (symbols m.signature) s → satisfies s m.axioms ≡ true
      → HasOutcome m.axioms m.init s (ended new) → satisfies new sentences ≡ true
  pub actions : (a : ℕ) (action : CommandTree) (s new : Tables) → slice_get m.actions a ≡ Some action
      → FitsStructure (symbols m.signature) s → satisfies s m.axioms ≡ true → satisfies s sentences ≡ true
      → HasOutcome m.axioms action s (ended new) → satisfies new sentences ≡ true

-- the structure in which it ends satisfies the sentences; of an abort nothing is asked
abbrev pub AreTrueAt : List FormTree → Outcome → Type 0
AreTrueAt sentences (ended s) = satisfies s sentences ≡ true
AreTrueAt sentences aborted = Unit {0}

-- the sentences are true at each end of init and of an action of the run
pub record AreTrueIn (sentences : List FormTree) (run : Run) : Type 0 where
  pub first : AreTrueAt sentences run.first
  pub steps : AllByRecursion (λ step. AreTrueAt sentences step.outcome) run.steps
