-- What holds of the draft of every first part of a text whose names and sorts are right.
use Rattle.std.specs.Prelude.{◌≡◌, ◌<◌, ◌≤◌, ℕ, [], List, length, reverse, slice_index_or}
use Rattle.std.specs.List.{AllByRecursion}
use Rattle.fol_sig.specs.Symbols.{symbols}
use Rattle.fol_formula.specs.Syntax.{FormTree, bottom}
use Rattle.fol_formula.specs.Fits.{FitsForm}
use Rattle.fol_formula.specs.Fragments.{IsQuantifierFree, HasPlainTerms}
use Rattle.rml_command.specs.Trees.{CommandTree, EachPrimitive, HasBranches}
use Rattle.rml_command.specs.Models.{FitsCommand, IsWritten, HasPlainSides}
use Rattle.rml_names.specs.Vocabulary.{Vocabulary, derived_sorts}
use Rattle.rml_names.specs.Sound.{IsSorted}
use Rattle.rml_names.specs.Drafts.{DraftTree}
use Rattle.fol_sig.specs.Tables.{Declared}

-- each block is so
pub record EachDraftBlock (P : CommandTree → Type 0) (d : DraftTree) : Type 0 where
  pub init : P d.init
  pub actions : AllByRecursion P d.actions
  pub last : P d.last

-- each derived relation has a right side, which fits its parameters
pub record HasBodies (v : Vocabulary) (bodies : List FormTree) : Type 0 where
  pub counted : length bodies ≡ length v.derived
  pub fit : (k : ℕ) → k < length v.derived
      → FitsForm (symbols v.signature) (reverse (derived_sorts v k)) (slice_index_or bodies k bottom)

-- no quantifier stands where none may
pub record IsPlainDraft (d : DraftTree) : Type 0 where
  pub bodies : AllByRecursion IsQuantifierFree d.bodies
  pub axioms : AllByRecursion HasPlainTerms d.axioms
  pub conjectures : AllByRecursion HasPlainTerms d.conjectures
  pub conditions : AllByRecursion (λ c. HasPlainTerms c.sentence) d.places.conditions
  pub blocks : EachDraftBlock (EachPrimitive HasPlainSides) d

-- The parts fit one another, each thing has a name and a place, each choice a branch, and each assumption comes from a
-- condition of the text.
pub record IsSound (d : DraftTree) : Type 0 where
  pub words : IsSorted d.vocabulary
  pub bodies : HasBodies d.vocabulary d.bodies
  pub listed : AllByRecursion (FitsForm (symbols d.vocabulary.signature) []) d.listed.sentences
  pub listed_plain : AllByRecursion HasPlainTerms d.listed.sentences
  pub axioms : AllByRecursion (FitsForm (symbols d.vocabulary.signature) []) d.axioms
  pub conjectures : AllByRecursion (FitsForm (symbols d.vocabulary.signature) []) d.conjectures
  pub blocks : EachDraftBlock (FitsCommand (symbols d.vocabulary.signature)) d
  pub conditions : AllByRecursion (λ c. FitsForm (symbols d.vocabulary.signature) [] c.sentence) d.places.conditions
  pub branches : EachDraftBlock HasBranches d
  pub axiom_names : length d.vocabulary.names.axioms ≡ length d.axioms
  pub conjecture_names : length d.vocabulary.names.conjectures ≡ length d.conjectures
  pub action_names : length d.vocabulary.names.actions ≡ length d.actions
  pub listed_names : length d.listed.names ≡ length d.listed.sentences
  pub function_places : length d.places.functions ≡ length d.vocabulary.signature.functions
  pub axiom_places : length d.places.axioms ≡ length d.axioms
  pub conjecture_places : length d.places.conjectures ≡ length d.conjectures
  pub action_places : length d.places.actions ≡ length d.actions
  pub listed_places : length d.listed.places ≡ length d.listed.sentences
  pub written : EachDraftBlock (EachPrimitive (IsWritten d.places.conditions)) d
  pub plain : d.places.quantifiers ≡ [] → IsPlainDraft d

-- the functions from this one on are names of elements of the sort
abbrev pub AreElements : Declared → ℕ → ℕ → Type 0
AreElements sig sort first = (f : ℕ) → first ≤ f → f < length sig.functions
    → ((symbols sig).from_of f ≡ []) × ((symbols sig).into_of f ≡ sort)
