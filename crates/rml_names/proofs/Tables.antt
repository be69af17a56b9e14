-- Names that are found by their hashes.
use Rattle.std.proofs.Common.{◌≡◌, ◌+◌, ℕ, Bool, not, nat_lt, cond, if◌then◌else◌, false, ◌++◌, List, [], ◌∷◌, length}
use Rattle.std.proofs.Common.{map, position, Option, Some, None, refl, ap, ◌∙◌, ◌||◌}
use Rattle.std.specs.List.{prefix_len, list_any}
use Rattle.std.proofs.lemmas.List.{length-map, map-append}

prefix_map : {A B : Type 0} (p : B → Bool) (f : A → B) (xs : List A)
    → prefix_len p (map f xs) ≡ prefix_len (λ x. p (f x)) xs
prefix_map p f [] = refl
prefix_map p f (x ∷ xs) = ap (λ (n : ℕ). cond (p (f x)) (1 + n) 0) (prefix_map p f xs)

abbrev place_below : ℕ → ℕ → Option ℕ
place_below n l = cond (nat_lt n l) (Some n) None

pub position_map : {A B : Type 0} (p : B → Bool) (f : A → B) (xs : List A)
    → position p (map f xs) ≡ position (λ x. p (f x)) xs
position_map p f xs =
    ap (λ (n : ℕ). place_below n (length (map f xs))) (prefix_map (λ y. not (p y)) f xs)
    ∙ ap (λ (l : ℕ). place_below (prefix_len (λ x. not (p (f x))) xs) l) (length-map xs f)

pub any_map : {A B : Type 0} (p : B → Bool) (f : A → B) (xs : List A)
    → list_any p (map f xs) ≡ list_any (λ x. p (f x)) xs
any_map p f [] = refl
any_map p f (x ∷ xs) = ap (λ (b : Bool). p (f x) || b) (any_map p f xs)

-- a value that is not among the keys goes behind them
pub key_behind : {V : Type 0} (f : V → List ℕ) (is : V → Bool) (keys : List V) (v : V) → list_any is keys ≡ false
    → map f (if list_any is keys then keys else keys ++ v ∷ []) ≡ map f keys ++ f v ∷ []
key_behind f is keys v none = rw none (map-append f keys (v ∷ []))
