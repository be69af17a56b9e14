-- The functions into each sort, and the terms that each of them gives.
use Rattle.std.specs.Prelude.{◌≡◌, ℕ, suc, ◌<◌, not, ◌==◌, if◌then◌else◌, List, [], ◌∷◌, length, map, slice_set}
use Rattle.std.specs.Prelude.{slice_index_or}
use Rattle.fol_sig.specs.Symbols.{Symbols}
use Rattle.fol_sig.specs.Tuples.{join_below, tuples}
use Rattle.ground_terms.specs.Terms.{PlainTerm, default_constant, application, is_empty}

-- of the first n functions those into a sort, in order
abbrev pub functions_into : Symbols → ℕ → ℕ → List ℕ
functions_into sig n k = join_below n (λ f. if sig.into_of f == k then f ∷ [] else [])

-- each sort has a row, of those of the first n functions that are into it
pub record AreFunctionRows (sig : Symbols) (n : ℕ) (rows : List (List ℕ)) : Type 0 where
  pub sorts : length rows ≡ sig.sorts
  pub each : (k : ℕ) → k < sig.sorts → slice_index_or rows k [] ≡ functions_into sig n k

-- the term of a function without arguments
abbrev pub own_constant : Symbols → ℕ → List PlainTerm
own_constant sig f = if is_empty (sig.from_of f) then application f [] ∷ [] else []

-- the terms of a function with arguments, by tuple
abbrev pub own_applications : Symbols → List ℕ → ℕ → List PlainTerm
own_applications sig counts f =
    if not (is_empty (sig.from_of f)) then map (application f) (tuples counts (sig.from_of f)) else []

-- a term of one of the first n functions
abbrev pub IsOfFirst : ℕ → PlainTerm → Type 0
IsOfFirst n default_constant = Unit {0}
IsOfFirst n (application f xs) = f < n

-- the place of a term is written down for its function
abbrev pub noted_at : ℕ → PlainTerm → List ℕ → List ℕ
noted_at at default_constant firsts = firsts
noted_at at (application f xs) firsts = slice_set firsts f at

-- The first place of each function, where the list is gone over from its end: the first term stands at `at`.
abbrev pub noted : ℕ → List PlainTerm → List ℕ → List ℕ
noted at [] firsts = firsts
noted at (t ∷ ts) firsts = noted_at at t (noted (suc at) ts firsts)
