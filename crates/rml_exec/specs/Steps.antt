-- One step of following a path.
use Rattle.std.specs.Prelude.{◌≡◌, ℕ, ◌<◌, true, false, Some, None, List, [], ◌∷◌, length, drop}
use Rattle.std.specs.List.{AllByRecursion}
use Rattle.fol_sig.specs.Tables.{Tables, size_at}
use Rattle.fol_sig.specs.Symbols.{Symbols, FitsStructure}
use Rattle.fol_formula.specs.Syntax.{FormTree}
use Rattle.fol_formula.specs.Fits.{FitsForm}
use Rattle.rml_command.specs.Trees.{PrimitiveTree, assume, set_rel, set_fun, havoc, havoc_rel, abort}
use Rattle.fol_formula.specs.Sentences.{satisfies}
use Rattle.rml_command.specs.Outcomes.{aborted, follow_path}
use Rattle.rml_command.specs.Models.{FitsPrimitive}
use Rattle.rml_command.specs.declared.havoc.Havoc.{Havoc}
use Rattle.rml_exec.specs.declared.trace.Followed.{Followed}
use Rattle.rml_exec.specs.declared.trace.Followed.TheVariants.{Ended, Aborted, Blocked}

-- the entries that a step leaves
abbrev pub havocs_after : PrimitiveTree → List Havoc → List Havoc
havocs_after (assume p) hs = hs
havocs_after (set_rel r by) hs = hs
havocs_after (set_fun f by) hs = hs
havocs_after (havoc v) hs = drop 1 hs
havocs_after (havoc_rel r) hs = drop 1 hs
havocs_after abort hs = hs

-- the primitive and the structure have the symbols of one signature
pub record CanUpdate (q : PrimitiveTree) (s : Tables) : Type 0 where
  pub sig : Symbols
  pub structure : FitsStructure sig s
  pub fits : FitsPrimitive sig q

-- so have the axioms too
pub record CanStep (axioms : List FormTree) (q : PrimitiveTree) (s : Tables) : Type 0 where
  pub sig : Symbols
  pub structure : FitsStructure sig s
  pub fits : FitsPrimitive sig q
  pub axioms_fit : AllByRecursion (FitsForm sig []) axioms

-- a step to a structure of the same symbols, whatever comes behind it
pub record MovesTo (axioms : List FormTree) (q : PrimitiveTree) (havocs : List Havoc) (s new : Tables) : Type 0 where
  pub onward : (qs : List PrimitiveTree) → follow_path axioms (q ∷ qs) havocs s
      ≡ follow_path axioms qs (havocs_after q havocs) new
  pub fits : (sig : Symbols) → FitsStructure sig s → FitsStructure sig new

-- what one step gives, whatever comes behind it: a next structure, an abort, or that it is blocked
abbrev pub StepsTo : List FormTree → PrimitiveTree → List Havoc → Tables → Followed → Type 0
StepsTo axioms q havocs s (Ended new) = MovesTo axioms q havocs s new
StepsTo axioms q havocs s Aborted = (qs : List PrimitiveTree) → follow_path axioms (q ∷ qs) havocs s ≡ Some aborted
StepsTo axioms q havocs s Blocked = (qs : List PrimitiveTree) → follow_path axioms (q ∷ qs) havocs s ≡ None

-- the structure is an end where it satisfies the axioms
abbrev pub Judges : List FormTree → Tables → Followed → Type 0
Judges axioms s (Ended new) = (new ≡ s) × (satisfies s axioms ≡ true)
Judges axioms s Aborted = ⊥
Judges axioms s Blocked = satisfies s axioms ≡ false

-- each sort is one of the structure, and P is so of each tuple of them before these elements
abbrev pub AtEachTuple : Tables → (List ℕ → Type 0) → List ℕ → List ℕ → Type 0
AtEachTuple s P [] before = P before
AtEachTuple s P (k ∷ ks) before = (k < length s.sizes) × ((x : ℕ) → x < size_at s k → AtEachTuple s P ks (x ∷ before))
