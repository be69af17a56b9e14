-- One of a list.
use Rattle.std.proofs.Common.{◌≡◌, ◌⊎◌, inl, inr, ℕ, zero, suc, ◌+◌, ◌<◌, Some, List, [], ◌∷◌, ◌++◌, map, refl}
use Rattle.std.proofs.Common.{subst, arith}
use Rattle.std.specs.Prelude.{slice_get}
use Rattle.std.specs.List.{AllByRecursion, flat_map}
use Rattle.base.proofs.Lists.{all_append, some_left, some_right}
use Rattle.base.specs.Lists.{SomeOf, count_from}

pub some_then : {A : Type 0} (P Q : A → Type 0) (xs : List A) → SomeOf P xs → ((x : A) → P x → Q x) → SomeOf Q xs
some_then P Q [] h f = absurd h
some_then P Q (x ∷ xs) (inl h) f = inl (f x h)
some_then P Q (x ∷ xs) (inr h) f = inr (some_then P Q xs h f)

pub some_parts : {A : Type 0} (P : A → Type 0) (xs ys : List A) → SomeOf P (xs ++ ys) → SomeOf P xs ⊎ SomeOf P ys
some_parts P [] ys h = inr h
some_parts P (x ∷ xs) ys (inl h) = inl (inl h)
some_parts P (x ∷ xs) ys (inr h) = elim (some_parts P xs ys h) [ inl a ↦ inl (inr a) | inr b ↦ inr b ]

-- through each of the lists that f makes
pub some_joined : {A B : Type 0} (P : B → Type 0) (f : A → List B) (xs : List A) → SomeOf (λ x. SomeOf P (f x)) xs
    → SomeOf P (flat_map f xs)
some_joined P f [] h = absurd h
some_joined P f (x ∷ xs) (inl h) = some_left P (f x) (flat_map f xs) h
some_joined P f (x ∷ xs) (inr h) = some_right P (f x) (flat_map f xs) (some_joined P f xs h)

pub some_split : {A B : Type 0} (P : B → Type 0) (f : A → List B) (xs : List A) → SomeOf P (flat_map f xs)
    → SomeOf (λ x. SomeOf P (f x)) xs
some_split P f [] h = absurd h
some_split P f (x ∷ xs) h =
    elim (some_parts P (f x) (flat_map f xs) h) [ inl a ↦ inl a | inr b ↦ inr (some_split P f xs b) ]

pub some_mapped : {A B : Type 0} (P : B → Type 0) (f : A → B) (xs : List A) → SomeOf (λ x. P (f x)) xs
    → SomeOf P (map f xs)
some_mapped P f [] h = absurd h
some_mapped P f (x ∷ xs) (inl h) = inl h
some_mapped P f (x ∷ xs) (inr h) = inr (some_mapped P f xs h)

pub some_unmapped : {A B : Type 0} (P : B → Type 0) (f : A → B) (xs : List A) → SomeOf P (map f xs)
    → SomeOf (λ x. P (f x)) xs
some_unmapped P f [] h = absurd h
some_unmapped P f (x ∷ xs) (inl h) = inl h
some_unmapped P f (x ∷ xs) (inr h) = inr (some_unmapped P f xs h)

-- where it stands
pub some_at : {A : Type 0} (P : A → Type 0) (xs : List A) → SomeOf P xs → (n : ℕ) × (x : A) × (slice_get xs n ≡ Some x)
    × P x
some_at P [] h = absurd h
some_at P (x ∷ xs) (inl h) = (0, x, refl, h)
some_at P (x ∷ xs) (inr h) = let r = some_at P xs h in (suc r.0, r.1, r.2, r.3)

-- one of the numbers from k on
pub some_counted : (P : ℕ → Type 0) (k n i : ℕ) → i < n → P (k + i) → SomeOf P (count_from k n)
some_counted P k zero i lt h = absurd (omega arith)
some_counted P k (suc n) zero lt h = let e : k + 0 ≡ k = omega arith in inl (subst P e h)
some_counted P k (suc n) (suc i) lt h =
    let e : k + suc i ≡ suc k + i = omega arith in inr (some_counted P (suc k) n i (omega arith) (subst P e h))

pub none_of : {A : Type 0} (P : A → Type 0) (xs : List A) → SomeOf P xs → AllByRecursion (λ x. P x → ⊥) xs → ⊥
none_of P [] h all = h
none_of P (x ∷ xs) (inl h) all = all.0 h
none_of P (x ∷ xs) (inr h) all = none_of P xs h all.1

-- each of a joined list, of a mapped one, and of numbers
pub all_joined : {A B : Type 0} (P : A → Type 0) (Q : B → Type 0) (f : A → List B)
    → ((x : A) → P x → AllByRecursion Q (f x)) → (xs : List A) → AllByRecursion P xs → AllByRecursion Q (flat_map f xs)
all_joined P Q f each [] all = tt
all_joined P Q f each (x ∷ xs) all =
    all_append Q (f x) (flat_map f xs) (each x all.0) (all_joined P Q f each xs all.1)

pub all_mapped : {A B : Type 0} (P : A → Type 0) (Q : B → Type 0) (f : A → B) → ((x : A) → P x → Q (f x))
    → (xs : List A) → AllByRecursion P xs → AllByRecursion Q (map f xs)
all_mapped P Q f each [] all = tt
all_mapped P Q f each (x ∷ xs) all = (each x all.0, all_mapped P Q f each xs all.1)

pub all_counted : (k n : ℕ) → AllByRecursion (λ i. i < k + n) (count_from k n)
all_counted k zero = tt
all_counted k (suc n) = let e : suc k + n ≡ k + suc n = omega arith in (
  omega arith,
  subst (λ (most : ℕ). AllByRecursion (λ i. i < most) (count_from (suc k) n)) e (all_counted (suc k) n),
)
