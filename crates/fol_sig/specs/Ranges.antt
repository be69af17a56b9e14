-- Tuples whose elements are those of their sorts.
use Rattle.std.specs.Prelude.{◌≡◌, ℕ, ◌<◌, List, ◌++◌, length, slice_index}
use Rattle.fol_sig.specs.Tables.{Tables, InRange, IsStructure, function_at, fun_at, size_at}

-- the tuple is as long as the list of its sorts, and has at each place an element of the sort there
pub record IsAlong (sizes ks xs : List ℕ) : Type 0 where
  pub long : length ks ≡ length xs
  pub each : (i : ℕ) → i < length ks → slice_index xs i < slice_index sizes (slice_index ks i)

-- a tuple in range of its sorts has these two properties
abbrev pub RangesAreAlong : Type 0
RangesAreAlong = (sizes ks xs : List ℕ) → InRange sizes ks xs → IsAlong sizes ks xs

-- a tuple that has them is in range
abbrev pub AlongIsInRange : Type 0
AlongIsInRange = (sizes ks xs : List ℕ) → IsAlong sizes ks xs → InRange sizes ks xs

-- two tuples in range of their sorts are so as one
abbrev pub RangesAppend : Type 0
RangesAppend = (sizes ks js xs ys : List ℕ)
    → InRange sizes ks xs → InRange sizes js ys → InRange sizes (ks ++ js) (xs ++ ys)

-- a tuple in range of its sorts is so in both parts, where the first is as long as its sorts
abbrev pub RangesSplit : Type 0
RangesSplit = (sizes ks js xs ys : List ℕ)
    → length ks ≡ length xs → InRange sizes (ks ++ js) (xs ++ ys) → InRange sizes ks xs × InRange sizes js ys

-- what a function gives is an element of its sort
abbrev pub FunctionsStayInRange : Type 0
FunctionsStayInRange = (s : Tables) (f : ℕ) (xs : List ℕ) → IsStructure s → f < length s.functions
    → InRange s.sizes (function_at s f).sorts xs
    → fun_at s f xs < size_at s (function_at s f).into
