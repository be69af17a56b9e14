-- A structure with one cell, or the whole table, of one symbol changed.
use Rattle.std.specs.Prelude.{◌≡◌, ℕ, ◌<◌, Bool, List, [], ◌∷◌, length, reverse, slice_index, slice_set, All}
use Rattle.fol_sig.specs.Symbols.{Symbols, FitsStructure}
use Rattle.fol_sig.specs.Tables.{Tables, InRange, tuple_count, place_of, relation_at, function_at, size_at, rel_at}
use Rattle.fol_sig.specs.Tables.{fun_at}
use Rattle.fol_sig.specs.Tuples.{join_below}

-- one cell of a relation is set, and no other
pub record SetsRelation (old new : Tables) (r : ℕ) (xs : List ℕ) (v : Bool) : Type 0 where
  pub sizes : new.sizes ≡ old.sizes
  pub functions : new.functions ≡ old.functions
  pub relations : length new.relations ≡ length old.relations
  pub sorts : (q : ℕ) → (relation_at new q).sorts ≡ (relation_at old q).sorts
  pub set : rel_at new r xs ≡ v
  pub others : (q : ℕ) (ys : List ℕ) → InRange old.sizes (relation_at old q).sorts ys → (q ≡ r → ys ≡ xs → ⊥)
      → rel_at new q ys ≡ rel_at old q ys

-- one cell of a function is set, and no other
pub record SetsFunction (old new : Tables) (g : ℕ) (xs : List ℕ) (v : ℕ) : Type 0 where
  pub sizes : new.sizes ≡ old.sizes
  pub relations : new.relations ≡ old.relations
  pub functions : length new.functions ≡ length old.functions
  pub sorts : (h : ℕ) → (function_at new h).sorts ≡ (function_at old h).sorts
  pub into : (h : ℕ) → (function_at new h).into ≡ (function_at old h).into
  pub set : fun_at new g xs ≡ v
  pub others : (h : ℕ) (ys : List ℕ) → InRange old.sizes (function_at old h).sorts ys → (h ≡ g → ys ≡ xs → ⊥)
      → fun_at new h ys ≡ fun_at old h ys

-- The values of f at the tuples of these sorts, in lexicographic order. f takes a tuple with its last element first,
-- as formulas do, and behind it the elements before.
abbrev pub cells_from : {A : Type 0} → List ℕ → (List ℕ → A) → List ℕ → List ℕ → List A
cells_from sizes f [] before = f before ∷ []
cells_from sizes f (k ∷ ks) before = join_below (slice_index sizes k) (λ x. cells_from sizes f ks (x ∷ before))

-- the structure with these cells in the table of r
abbrev pub with_relation_cells : Tables → ℕ → List Bool → Tables
with_relation_cells s r cells = record {
  sizes = s.sizes;
  relations = slice_set s.relations r (record { sorts = (relation_at s r).sorts; cells = cells });
  functions = s.functions;
}

-- the structure with these cells in the table of g
abbrev pub with_function_cells : Tables → ℕ → List ℕ → Tables
with_function_cells s g cells = record {
  sizes = s.sizes;
  relations = s.relations;
  functions =
      slice_set s.functions g
      (record { sorts = (function_at s g).sorts; into = (function_at s g).into; cells = cells });
}

-- the structure with this value of r at one tuple
abbrev pub with_rel_at : Tables → ℕ → List ℕ → Bool → Tables
with_rel_at s r xs v =
    with_relation_cells s r (slice_set (relation_at s r).cells (place_of s.sizes (relation_at s r).sorts xs) v)

-- the structure with this value of g at one tuple
abbrev pub with_fun_at : Tables → ℕ → List ℕ → ℕ → Tables
with_fun_at s g xs v =
    with_function_cells s g (slice_set (function_at s g).cells (place_of s.sizes (function_at s g).sorts xs) v)

-- the structure where r is true of the tuples of which f is, each taken with its last element first
abbrev pub with_relation : Tables → ℕ → (List ℕ → Bool) → Tables
with_relation s r f = with_relation_cells s r (cells_from s.sizes f (relation_at s r).sorts [])

-- the structure where g has the value of f at each tuple
abbrev pub with_function : Tables → ℕ → (List ℕ → ℕ) → Tables
with_function s g f = with_function_cells s g (cells_from s.sizes f (function_at s g).sorts [])

-- f gives elements of g's sort at the tuples of g, each taken with its last element first
abbrev pub GivesElements : Tables → ℕ → (List ℕ → ℕ) → Type 0
GivesElements s g f = (xs : List ℕ) → InRange s.sizes (reverse (function_at s g).sorts) xs
    → f xs < size_at s (function_at s g).into

-- What an update means: the symbol has the new value at each tuple, each other symbol is as before, and the result is
-- a structure of the same symbols.
pub record UpdatesRelation (s : Tables) (r : ℕ) (f : List ℕ → Bool) : Type 0 where
  pub sizes : (with_relation s r f).sizes ≡ s.sizes
  pub here : (xs : List ℕ) → r < length s.relations → InRange s.sizes (relation_at s r).sorts xs
      → rel_at (with_relation s r f) r xs ≡ f (reverse xs)
  pub others : (q : ℕ) (xs : List ℕ) → (q ≡ r → ⊥) → rel_at (with_relation s r f) q xs ≡ rel_at s q xs
  pub functions : (with_relation s r f).functions ≡ s.functions
  pub full : length (cells_from s.sizes f (relation_at s r).sorts []) ≡ tuple_count s.sizes (relation_at s r).sorts
  pub fits : (sig : Symbols) → r < sig.relations → FitsStructure sig s → FitsStructure sig (with_relation s r f)

-- The same of a function. The result is a structure where f gives elements of the function's sort.
pub record UpdatesFunction (s : Tables) (g : ℕ) (f : List ℕ → ℕ) : Type 0 where
  pub sizes : (with_function s g f).sizes ≡ s.sizes
  pub here : (xs : List ℕ) → g < length s.functions → InRange s.sizes (function_at s g).sorts xs
      → fun_at (with_function s g f) g xs ≡ f (reverse xs)
  pub others : (q : ℕ) (xs : List ℕ) → (q ≡ g → ⊥) → fun_at (with_function s g f) q xs ≡ fun_at s q xs
  pub relations : (with_function s g f).relations ≡ s.relations
  pub full : length (cells_from s.sizes f (function_at s g).sorts []) ≡ tuple_count s.sizes (function_at s g).sorts
  pub within : GivesElements s g f → All (λ x. x < size_at s (function_at s g).into)
      (cells_from s.sizes f (function_at s g).sorts [])
  pub fits : (sig : Symbols) → g < sig.functions → GivesElements s g f → FitsStructure sig s
      → FitsStructure sig (with_function s g f)
