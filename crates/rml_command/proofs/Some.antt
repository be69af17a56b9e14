-- One of a list.
use Rattle.std.proofs.Common.{◌≡◌, ◌⊎◌, inl, inr, ℕ, suc, Some, List, [], ◌∷◌, ◌++◌, map, refl}
use Rattle.std.specs.Prelude.{slice_get}
use Rattle.std.specs.List.{flat_map}
use Rattle.base.specs.Lists.{SomeOf}

pub some_then : {A : Type 0} (P Q : A → Type 0) (xs : List A) → SomeOf P xs → ((x : A) → P x → Q x) → SomeOf Q xs
some_then P Q [] h f = absurd h
some_then P Q (x ∷ xs) (inl h) f = inl (f x h)
some_then P Q (x ∷ xs) (inr h) f = inr (some_then P Q xs h f)

pub some_front : {A : Type 0} (P : A → Type 0) (xs ys : List A) → SomeOf P xs → SomeOf P (xs ++ ys)
some_front P [] ys h = absurd h
some_front P (x ∷ xs) ys (inl h) = inl h
some_front P (x ∷ xs) ys (inr h) = inr (some_front P xs ys h)

pub some_back : {A : Type 0} (P : A → Type 0) (xs ys : List A) → SomeOf P ys → SomeOf P (xs ++ ys)
some_back P [] ys h = h
some_back P (x ∷ xs) ys h = inr (some_back P xs ys h)

pub some_parts : {A : Type 0} (P : A → Type 0) (xs ys : List A) → SomeOf P (xs ++ ys) → SomeOf P xs ⊎ SomeOf P ys
some_parts P [] ys h = inr h
some_parts P (x ∷ xs) ys (inl h) = inl (inl h)
some_parts P (x ∷ xs) ys (inr h) = elim (some_parts P xs ys h) [ inl a ↦ inl (inr a) | inr b ↦ inr b ]

-- through each of the lists that f makes
pub some_joined : {A B : Type 0} (P : B → Type 0) (f : A → List B) (xs : List A) → SomeOf (λ x. SomeOf P (f x)) xs
    → SomeOf P (flat_map f xs)
some_joined P f [] h = absurd h
some_joined P f (x ∷ xs) (inl h) = some_front P (f x) (flat_map f xs) h
some_joined P f (x ∷ xs) (inr h) = some_back P (f x) (flat_map f xs) (some_joined P f xs h)

pub some_split : {A B : Type 0} (P : B → Type 0) (f : A → List B) (xs : List A) → SomeOf P (flat_map f xs)
    → SomeOf (λ x. SomeOf P (f x)) xs
some_split P f [] h = absurd h
some_split P f (x ∷ xs) h =
    elim (some_parts P (f x) (flat_map f xs) h) [ inl a ↦ inl a | inr b ↦ inr (some_split P f xs b) ]

pub some_mapped : {A B : Type 0} (P : B → Type 0) (f : A → B) (xs : List A) → SomeOf (λ x. P (f x)) xs
    → SomeOf P (map f xs)
some_mapped P f [] h = absurd h
some_mapped P f (x ∷ xs) (inl h) = inl h
some_mapped P f (x ∷ xs) (inr h) = inr (some_mapped P f xs h)

pub some_unmapped : {A B : Type 0} (P : B → Type 0) (f : A → B) (xs : List A) → SomeOf P (map f xs)
    → SomeOf (λ x. P (f x)) xs
some_unmapped P f [] h = absurd h
some_unmapped P f (x ∷ xs) (inl h) = inl h
some_unmapped P f (x ∷ xs) (inr h) = inr (some_unmapped P f xs h)

-- where it stands
pub some_at : {A : Type 0} (P : A → Type 0) (xs : List A) → SomeOf P xs → (n : ℕ) × (x : A) × (slice_get xs n ≡ Some x)
    × P x
some_at P [] h = absurd h
some_at P (x ∷ xs) (inl h) = (0, x, refl, h)
some_at P (x ∷ xs) (inr h) = let r = some_at P xs h in (suc r.0, r.1, r.2, r.3)
