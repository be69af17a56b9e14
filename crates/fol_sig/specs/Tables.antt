-- Finite structures: a size for each sort, and a table for each relation and each function.
use Rattle.std.specs.Prelude.{◌≡◌, ℕ, ◌+◌, ◌*◌, ◌^◌, ◌<◌, ◌≤◌, Bool, false, List, [], ◌∷◌, length, slice_index}
use Rattle.std.specs.Prelude.{slice_index_or, slice_set, All, map, nat_eq, replicate}
use Rattle.std.specs.List.{list_any}
use Rattle.fol_sig.specs.Arguments.{max_arguments}
use Rattle.fol_sig.specs.declared.Sort.{Sort}
use Rattle.fol_sig.specs.declared.FunId.{FunId}

-- sorts by their numbers
abbrev pub numbers : List Sort → List ℕ
numbers ks = map (λ k. k.0) ks

-- functions by their numbers
abbrev pub function_numbers : List FunId → List ℕ
function_numbers fs = map (λ f. f.0) fs

-- What a signature declares: how many sorts, the sorts of each relation's arguments, those of each function's arguments
-- with that of its values, and which functions are listed. A variable is a function without arguments. A listed one is
-- a name of a sort whose elements are listed, and no command may write it; truth does not read that.
pub record Declared : Type 0 where
  pub sorts : ℕ
  pub relations : List (List ℕ)
  pub functions : List (List ℕ × Sort)
  pub listed : List ℕ

-- whether the function is listed
abbrev pub is_listed : Declared → ℕ → Bool
is_listed sig f = list_any (λ g. nat_eq g f) sig.listed

-- each of these is one of n sorts
abbrev pub AreSorts : ℕ → List ℕ → Type 0
AreSorts n ks = All (λ k. k < n) ks

-- no other sorts are named, no symbol has more than 8 arguments, and what is listed is declared
pub record IsSignature (sig : Declared) : Type 0 where
  pub relations_sorted : All (AreSorts sig.sorts) sig.relations
  pub functions_sorted : All (λ f. AreSorts sig.sorts f.0 × (f.1.0 < sig.sorts)) sig.functions
  pub relations_short : All (λ ks. length ks ≤ max_arguments) sig.relations
  pub functions_short : All (λ f. length f.0 ≤ max_arguments) sig.functions
  pub listed_known : All (λ f. f < length sig.functions) sig.listed
  pub few_sorts : sig.sorts < 2 ^ 32
  pub few_relations : length sig.relations < 2 ^ 32
  pub few_functions : length sig.functions < 2 ^ 32

-- a value for each tuple of elements of these sorts, in lexicographic order
pub record TableOf (A : Type 0) : Type 0 where
  pub sorts : List ℕ
  pub cells : List A

-- the truth values of a relation
abbrev pub RelationTable : Type 0
RelationTable = TableOf Bool

-- the values of a function, which are elements of one sort
pub record FunctionTable : Type 0 where
  pub sorts : List ℕ
  pub into : ℕ
  pub cells : List ℕ

-- a finite structure: how many elements each sort has, and the table of each symbol
pub record Tables : Type 0 where
  pub sizes : List ℕ
  pub relations : List RelationTable
  pub functions : List FunctionTable

-- what truth reads of a structure
pub record Reading : Type 0 where
  pub size : ℕ → ℕ
  pub rel : ℕ → List ℕ → Bool
  pub fun : ℕ → List ℕ → ℕ

-- each element of the tuple is one of its sort
abbrev pub InRange : List ℕ → List ℕ → List ℕ → Type 0
InRange sizes [] [] = Unit {0}
InRange sizes [] (x ∷ xs) = ⊥
InRange sizes (k ∷ ks) [] = ⊥
InRange sizes (k ∷ ks) (x ∷ xs) = (x < slice_index sizes k) × InRange sizes ks xs

-- how many tuples there are
abbrev pub tuple_count : List ℕ → List ℕ → ℕ
tuple_count sizes [] = 1
tuple_count sizes (k ∷ ks) = slice_index sizes k * tuple_count sizes ks

-- the place of a tuple, where those before it count for `before`
abbrev pub place_from : List ℕ → ℕ → List ℕ → List ℕ → ℕ
place_from sizes before [] xs = before
place_from sizes before (k ∷ ks) [] = before
place_from sizes before (k ∷ ks) (x ∷ xs) = place_from sizes (before * slice_index sizes k + x) ks xs

-- the place of a tuple in a table of these sorts, counted from 0
unfoldable pub place_of : List ℕ → List ℕ → List ℕ → ℕ
place_of sizes ks xs = place_from sizes 0 ks xs

-- the value at a tuple, or another where the table has none
abbrev pub cell_at : {A : Type 0} → List ℕ → TableOf A → List ℕ → A → A
cell_at sizes t xs other = slice_index_or t.cells (place_of sizes t.sorts xs) other

-- the table of a relation; one without cells where the structure has no such relation
abbrev pub relation_at : Tables → ℕ → RelationTable
relation_at s r = slice_index_or s.relations r (record { sorts = []; cells = [] })

-- the table of a function; one without cells where the structure has no such function
abbrev pub function_at : Tables → ℕ → FunctionTable
function_at s f = slice_index_or s.functions f (record { sorts = []; into = 0; cells = [] })

-- how many elements a sort has
abbrev pub size_at : Tables → ℕ → ℕ
size_at s k = slice_index s.sizes k

-- the truth of a relation at a tuple; false where its table has no such cell
abbrev pub rel_at : Tables → ℕ → List ℕ → Bool
rel_at s r xs = cell_at s.sizes (relation_at s r) xs false

-- the value of a function at a tuple
abbrev pub fun_at : Tables → ℕ → List ℕ → ℕ
fun_at s f xs = slice_index (function_at s f).cells (place_of s.sizes (function_at s f).sorts xs)

-- the structure as truth reads it
abbrev pub reading : Tables → Reading
reading s = record { size = size_at s; rel = rel_at s; fun = fun_at s }

-- the sorts are those of the structure, and the table has a cell for each tuple
pub record IsFullRelation (sizes : List ℕ) (t : RelationTable) : Type 0 where
  pub sorted : All (λ k. k < length sizes) t.sorts
  pub short : length t.sorts ≤ max_arguments
  pub full : length t.cells ≡ tuple_count sizes t.sorts

-- the same of a function's table, and each cell is an element of the sort of its values
pub record IsFullFunction (sizes : List ℕ) (t : FunctionTable) : Type 0 where
  pub sorted : All (λ k. k < length sizes) t.sorts
  pub short : length t.sorts ≤ max_arguments
  pub into_sorted : t.into < length sizes
  pub full : length t.cells ≡ tuple_count sizes t.sorts
  pub within : All (λ x. x < slice_index sizes t.into) t.cells

-- each sort has an element, and each table is full
pub record IsStructure (s : Tables) : Type 0 where
  pub positive : All (λ n. 0 < n) s.sizes
  pub relations_full : All (IsFullRelation s.sizes) s.relations
  pub functions_full : All (IsFullFunction s.sizes) s.functions

-- a table that has one value everywhere
abbrev pub filled : {A : Type 0} → List ℕ → List ℕ → A → TableOf A
filled sizes ks v = record { sorts = ks; cells = replicate (tuple_count sizes ks) v }

-- the table with another value at one tuple
abbrev pub with_cell : {A : Type 0} → List ℕ → TableOf A → List ℕ → A → TableOf A
with_cell sizes t xs v = record { sorts = t.sorts; cells = slice_set t.cells (place_of sizes t.sorts xs) v }

-- the table over these sorts that is false everywhere
abbrev pub blank_relation : List ℕ → List ℕ → RelationTable
blank_relation sizes ks = filled sizes ks false

-- the table over these sorts that is 0 everywhere
abbrev pub blank_function : List ℕ → List ℕ → ℕ → FunctionTable
blank_function sizes ks into = record { sorts = ks; into = into; cells = replicate (tuple_count sizes ks) 0 }

-- the structure of these sizes whose relations are false and whose functions are 0 everywhere
abbrev pub blank : Declared → List ℕ → Tables
blank sig sizes = record {
  sizes = sizes;
  relations = map (blank_relation sizes) sig.relations;
  functions = map (λ f. blank_function sizes f.0 f.1.0) sig.functions;
}
