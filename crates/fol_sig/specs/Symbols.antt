-- The symbols of a signature, and the structures that have them.
use Rattle.std.specs.Prelude.{◌≡◌, ℕ, ◌<◌, ◌≤◌, List, [], length, slice_index_or}
use Rattle.fol_sig.specs.Arguments.{max_arguments}
use Rattle.fol_sig.specs.declared.Sort.{Sort}
use Rattle.fol_sig.specs.Tables.{Tables, Declared, AreSorts, IsStructure, relation_at, function_at}

-- the symbols that a formula may have: how many there are, the sorts of their arguments, and those of the functions'
-- values
pub record Symbols : Type 0 where
  pub sorts : ℕ
  pub relations : ℕ
  pub functions : ℕ
  pub sorts_of : ℕ → List ℕ
  pub from_of : ℕ → List ℕ
  pub into_of : ℕ → ℕ

-- what is read for a function that the signature does not have: no arguments, and values of sort 0
abbrev pub no_function : List ℕ × Sort
no_function = ([], record { 0 = 0 })

-- the symbols of a signature
abbrev pub symbols : Declared → Symbols
symbols sig = record {
  sorts = sig.sorts;
  relations = length sig.relations;
  functions = length sig.functions;
  sorts_of = λ r. slice_index_or sig.relations r [];
  from_of = λ f. (slice_index_or sig.functions f no_function).0;
  into_of = λ f. (slice_index_or sig.functions f no_function).1.0;
}

-- the symbols have no other sorts, and at most 8 arguments
pub record AreSorted (sig : Symbols) : Type 0 where
  pub relations : (r : ℕ) → r < sig.relations → AreSorts sig.sorts (sig.sorts_of r)
  pub functions : (f : ℕ) → f < sig.functions → AreSorts sig.sorts (sig.from_of f)
  pub into : (f : ℕ) → f < sig.functions → sig.into_of f < sig.sorts
  pub relations_short : (r : ℕ) → r < sig.relations → length (sig.sorts_of r) ≤ max_arguments
  pub functions_short : (f : ℕ) → f < sig.functions → length (sig.from_of f) ≤ max_arguments

-- the structure has these symbols
pub record FitsStructure (sig : Symbols) (s : Tables) : Type 0 where
  pub whole : IsStructure s
  pub sorts : sig.sorts ≡ length s.sizes
  pub relations : sig.relations ≡ length s.relations
  pub functions : sig.functions ≡ length s.functions
  pub sorts_of : (r : ℕ) → r < sig.relations → sig.sorts_of r ≡ (relation_at s r).sorts
  pub from_of : (f : ℕ) → f < sig.functions → sig.from_of f ≡ (function_at s f).sorts
  pub into_of : (f : ℕ) → f < sig.functions → sig.into_of f ≡ (function_at s f).into
