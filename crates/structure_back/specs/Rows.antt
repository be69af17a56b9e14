-- Rows of numbers, one for each sort.
use Rattle.std.specs.Prelude.{ℕ, List, [], slice_index, slice_index_or, slice_set}
use Rattle.ground_terms.specs.Values.{Elements}

-- a row of numbers for each sort
abbrev pub Rows : Type 0
Rows = List (List ℕ)

-- the row of sort k; an empty one where there is none
abbrev pub row_of : Rows → ℕ → List ℕ
row_of rows k = slice_index_or rows k []

-- the number for the term, or the element, x of sort k
abbrev pub looked_up : Rows → Elements
looked_up rows k x = slice_index (row_of rows k) x

-- the rows with another number there
abbrev pub with_number : Rows → ℕ → ℕ → ℕ → Rows
with_number rows k x n = slice_set rows k (slice_set (row_of rows k) x n)
