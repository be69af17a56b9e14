-- Sets of conjectures, told by their numbers, and when one is inductive apart from aborts.
use Rattle.std.specs.Prelude.{◌≡◌, ℕ, ◌<◌, true, List, length, map, Some, [], slice_get, slice_index_or}
use Rattle.base.specs.Lists.{SomeOf, numbered}
use Rattle.fol_sig.specs.Tables.{Tables}
use Rattle.fol_sig.specs.Symbols.{FitsStructure, symbols}
use Rattle.fol_formula.specs.Syntax.{FormTree, top}
use Rattle.fol_formula.specs.Sentences.{is_true, satisfies}
use Rattle.rml_command.specs.Trees.{PrimitiveTree}
use Rattle.rml_command.specs.Outcomes.{ended, PathHasOutcome}
use Rattle.rml_command.specs.Models.{ModelTree}
use Rattle.rml_command.specs.Goals.{stage_paths}
use Rattle.rml_command.specs.declared.goal.Stage.{Stage}
use Rattle.rml_command.specs.declared.goal.Stage.TheVariants as stage

-- the conjectures of these numbers
abbrev pub conjectures_of : ModelTree → List ℕ → List FormTree
conjectures_of m ks = map (λ k. slice_index_or m.conjectures k top) ks

-- the number is one of these
abbrev pub Has : List ℕ → ℕ → Type 0
Has ks k = SomeOf (λ n. n ≡ k) ks

-- each of the first numbers is one of the others
abbrev pub IsWithin : List ℕ → List ℕ → Type 0
IsWithin ks all = (k : ℕ) → Has ks k → Has all k

-- From a structure that satisfies the axioms and these sentences, no path of the stage's block ends where the sentence
-- is false.
abbrev pub Keeps : ModelTree → List FormTree → Stage → FormTree → Type 0
Keeps m held stage c =
    (number : ℕ) (path : List PrimitiveTree) (s new : Tables) → numbered (stage_paths m stage) number ≡ Some path
    → FitsStructure (symbols m.signature) s → satisfies s m.axioms ≡ true → satisfies s held ≡ true
    → PathHasOutcome m.axioms path s (ended new) → is_true new c ≡ true

-- A set of conjectures is inductive apart from aborts where each member is kept by init, and by each action from
-- structures that satisfy the whole set.
pub record IsInductive (m : ModelTree) (ks : List ℕ) : Type 0 where
  pub conjectures : (k : ℕ) → Has ks k → k < length m.conjectures
  pub init : (k : ℕ) (c : FormTree) → Has ks k → slice_get m.conjectures k ≡ Some c → Keeps m [] stage.Init c
  pub actions : (k : ℕ) (c : FormTree) (a : ℕ) → Has ks k → slice_get m.conjectures k ≡ Some c
      → Keeps m (conjectures_of m ks) (stage.Action a) c
