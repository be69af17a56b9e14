-- What std lacks on lists: some element, numbers in a row, the element of a number.
use Rattle.std.specs.Prelude.{◌⊎◌, ℕ, zero, suc, List, [], ◌∷◌, Option, None, slice_get}

-- one of the list is as P says
abbrev pub SomeOf : {A : Type 0} → (A → Type 0) → List A → Type 0
SomeOf P [] = ⊥
SomeOf P (x ∷ xs) = P x ⊎ SomeOf P xs

-- n numbers from k on
abbrev pub count_from : ℕ → ℕ → List ℕ
count_from k zero = []
count_from k (suc n) = k ∷ count_from (suc k) n

-- the one of this number, from 1
abbrev pub numbered : {A : Type 0} → List A → ℕ → Option A
numbered xs zero = None
numbered xs (suc n) = slice_get xs n
