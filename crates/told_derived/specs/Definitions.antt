-- The derived relations of a text. They are no symbols of its model, so no structure has a table for one; but a formula
-- says of which tuples it is true.
use Rattle.std.specs.Prelude.{◌≡◌, ℕ, ◌<◌, ◌≤◌, Bool, List, [], length, reverse, slice_index_or}
use Rattle.fol_sig.specs.Tables.{Tables, AreSorts, reading}
use Rattle.fol_sig.specs.Symbols.{Symbols, FitsStructure}
use Rattle.fol_formula.specs.Syntax.{FormTree, bottom}
use Rattle.fol_formula.specs.Truth.{truth}
use Rattle.fol_formula.specs.Fits.{FitsForm}
use Rattle.rml_syntax.specs.Tree.{FileTree}
use Rattle.rml_names.specs.Drafts.{DraftTree, empty_draft}
use Rattle.rml_sorts.specs.Items.{draft_of}

-- its name, the sorts of its parameters, and its right side, in which they are free, the last one 0
pub record Derived : Type 0 where
  pub name : List ℕ
  pub sorts : List ℕ
  pub body : FormTree

-- those of a text in the order of their definitions
pub record Definitions : Type 0 where
  pub names : List (List ℕ)
  pub sorts : List (List ℕ)
  pub bodies : List FormTree

-- the k-th definition, from 0; past the last, no name, no parameters, and a right side that is false
abbrev pub definition_at : Definitions → ℕ → Derived
definition_at d k = record {
  name = slice_index_or d.names k [];
  sorts = slice_index_or d.sorts k [];
  body = slice_index_or d.bodies k bottom;
}

-- whether it is true of a tuple
abbrev pub is_true_of : Tables → Derived → List ℕ → Bool
is_true_of s r xs = truth (reading s) r.body (reverse xs)

-- ---- where they stand

-- the derived relations that a draft has so far
abbrev pub drafted : DraftTree → Definitions
drafted d = record { names = d.vocabulary.derived_names; sorts = d.vocabulary.derived; bodies = d.bodies }

-- the right sides have all uses of other derived relations written out
abbrev pub definitions_of : List ℕ → FileTree → Definitions
definitions_of text tree = drafted (draft_of text empty_draft tree.items)

abbrev pub no_definitions : Definitions
no_definitions = record { names = []; sorts = []; bodies = [] }

-- ---- what holds of them

-- it has known sorts, at most 8, and its right side is over these symbols
pub record FitsDerived (sig : Symbols) (r : Derived) : Type 0 where
  pub sorted : AreSorts sig.sorts r.sorts
  pub short : length r.sorts ≤ 8
  pub body : FitsForm sig (reverse r.sorts) r.body

-- there are as many names and right sides as definitions, and each fits the symbols
pub record FitDefinitions (sig : Symbols) (d : Definitions) : Type 0 where
  pub named : length d.names ≡ length d.sorts
  pub counted : length d.bodies ≡ length d.sorts
  pub each : (k : ℕ) → k < length d.sorts → FitsDerived sig (definition_at d k)

-- it can be asked whether it is true of a tuple
pub record CanAsk (s : Tables) (r : Derived) : Type 0 where
  pub sig : Symbols
  pub structure : FitsStructure sig s
  pub fits : FitsDerived sig r
