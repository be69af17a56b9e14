-- One turn of a loop that adds the places of each element of a list.
use Rattle.std.proofs.Common.{◌≡◌, ℕ, ◌+◌, ◌<◌, List, ◌∷◌, ◌++◌, length, get_or, drop}
use Rattle.base.proofs.Lists.{list_turn}

-- F makes a list of places of a list, G that of its first element
pub places_turn : {A : Type 0} (F : List A → List ℕ) (G : A → List ℕ) (xs : List A) (i : ℕ) (x : A)
    (old new whole : List ℕ)
    → ((y : A) (ys : List A) → F (y ∷ ys) ≡ G y ++ F ys) → i < length xs → x ≡ get_or xs i x
    → new ≡ old ++ G x → old ++ F (drop i xs) ≡ whole → new ++ F (drop (i + 1) xs) ≡ whole
places_turn F G xs i x old new whole by = list_turn F G xs i x old new whole (by x (drop (i + 1) xs))
