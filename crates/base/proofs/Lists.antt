-- What std lacks on lists. It is the one file of lemmas that other crates name: what ranges over predicates is no
-- clause.
use Rattle.std.proofs.Common.{◌≡◌, ◌≢◌, ℕ, zero, suc, ◌+◌, ◌-◌, ◌<◌, ◌≤◌, Some, List, [], ◌∷◌, ◌++◌, length, get_or}
use Rattle.std.proofs.Common.{take, drop, set, map, inl, inr, refl, sym, ap, ◌∙◌, subst, arith, append_assoc}
use Rattle.std.proofs.lemmas.Grind.{common_steps}
use Rattle.std.proofs.lemmas.List.{append-nil, drop_all, drop_more, drop-append-le, take-append-le}
use Rattle.std.proofs.lemmas.List.{length-set, take_more_set, take-set, drop-set-lt, get_or-set_other}
use Rattle.std.proofs.Math.Seq.{drop-append_seam}
use Rattle.std.specs.List.{AllByRecursion, flat_map, slice_get, slice_range}
use Rattle.base.specs.Lists.{SomeOf}

-- what holds of each element, by recursion on the list
pub all_more : {A : Type 0} (P Q : A → Type 0) → ((x : A) → P x → Q x) → (xs : List A) → AllByRecursion P xs
    → AllByRecursion Q xs
all_more P Q so [] h = tt
all_more P Q so (x ∷ xs) h = (so x h.0, all_more P Q so xs h.1)

pub all_both : {A : Type 0} (P Q R : A → Type 0) → ((x : A) → P x → Q x → R x) → (xs : List A) → AllByRecursion P xs
    → AllByRecursion Q xs → AllByRecursion R xs
all_both P Q R so [] ps qs = tt
all_both P Q R so (x ∷ xs) ps qs = (so x ps.0 qs.0, all_both P Q R so xs ps.1 qs.1)

pub all_append : {A : Type 0} (P : A → Type 0) (xs ys : List A) → AllByRecursion P xs → AllByRecursion P ys
    → AllByRecursion P (xs ++ ys)
all_append P [] ys h k = k
all_append P (x ∷ xs) ys h k = (h.0, all_append P xs ys h.1 k)

pub all_push : {A : Type 0} (P : A → Type 0) (xs : List A) (x : A) → AllByRecursion P xs → P x
    → AllByRecursion P (xs ++ x ∷ [])
all_push P xs x h k = all_append P xs (x ∷ []) h (k, tt)

pub all_front : {A : Type 0} (P : A → Type 0) (xs ys : List A) → AllByRecursion P (xs ++ ys) → AllByRecursion P xs
all_front P [] ys all = tt
all_front P (x ∷ xs) ys all = (all.0, all_front P xs ys all.1)

pub all_back : {A : Type 0} (P : A → Type 0) (xs ys : List A) → AllByRecursion P (xs ++ ys) → AllByRecursion P ys
all_back P [] ys all = all
all_back P (x ∷ xs) ys all = all_back P xs ys all.1

pub all_at : {A : Type 0} (P : A → Type 0) (xs : List A) (k : ℕ) (x : A) → slice_get xs k ≡ Some x → AllByRecursion P xs
    → P x
all_at P [] k x is all = absurd (cc is)
all_at P (y ∷ ys) zero x is all = let e : y ≡ x = cc is in subst P e all.0
all_at P (y ∷ ys) (suc k) x is all = all_at P ys k x is all.1

-- one of two joined lists is one of either
pub some_left : {A : Type 0} (P : A → Type 0) (xs ys : List A) → SomeOf P xs → SomeOf P (xs ++ ys)
some_left P [] ys h = absurd h
some_left P (x ∷ xs) ys h = elim h [ inl p ↦ inl p | inr r ↦ inr (some_left P xs ys r) ]

pub some_right : {A : Type 0} (P : A → Type 0) (xs ys : List A) → SomeOf P ys → SomeOf P (xs ++ ys)
some_right P [] ys h = h
some_right P (x ∷ xs) ys h = inr (some_right P xs ys h)

-- an element that is there stands below the length
pub at-below : {A : Type 0} (xs : List A) (k : ℕ) (x : A) → slice_get xs k ≡ Some x → k < length xs
at-below [] k x is = cc is
at-below (y ∷ ys) zero x is = omega arith
at-below (y ∷ ys) (suc k) x is = let l = at-below ys k x is in omega arith

pub map-map : {A B C : Type 0} (g : B → C) (h : A → B) (xs : List A) → map g (map h xs) ≡ map (λ x. g (h x)) xs
map-map g h [] = refl
map-map g h (x ∷ xs) = ap (λ (l : List _). g (h x) ∷ l) (map-map g h xs)

pub flat_map-append : {A B : Type 0} (f : A → List B) (xs ys : List A)
    → flat_map f (xs ++ ys) ≡ flat_map f xs ++ flat_map f ys
flat_map-append f [] ys = refl
flat_map-append f (x ∷ xs) ys =
    ap (λ z. f x ++ z) (flat_map-append f xs ys) ∙ sym (append_assoc (f x) (flat_map f xs) (flat_map f ys))

-- the list from a place on, whose element was read
pub drop_read : {A : Type 0} (xs : List A) (i : ℕ) (x : A) → i < length xs → x ≡ get_or xs i x
    → drop i xs ≡ x ∷ drop (i + 1) xs
drop_read xs i x lt is = drop_more xs i x lt ∙ ap (λ y. y ∷ drop (i + 1) xs) (sym is)

-- One turn of a loop that appends what G makes of the element, where F makes the whole, and its end.
pub list_turn : {A B : Type 0} (F : List A → List B) (G : A → List B) (xs : List A) (i : ℕ) (x : A)
    (old new whole : List B)
    → F (x ∷ drop (i + 1) xs) ≡ G x ++ F (drop (i + 1) xs) → i < length xs → x ≡ get_or xs i x → new ≡ old ++ G x
    → old ++ F (drop i xs) ≡ whole → new ++ F (drop (i + 1) xs) ≡ whole
list_turn F G xs i x old new whole by lt is more before =
    let rest = drop (i + 1) xs in
    ap (λ z. z ++ F rest) more ∙ append_assoc old (G x) (F rest) ∙ ap (λ z. old ++ z) (sym by)
    ∙ ap (λ z. old ++ F z) (sym (drop_read xs i x lt is)) ∙ before

pub list_end : {A B : Type 0} (F : List A → List B) (xs : List A) (i : ℕ) (new whole : List B) → F [] ≡ []
    → length xs ≤ i → new ++ F (drop i xs) ≡ whole → new ≡ whole
list_end F xs i new whole none over made =
    sym (append-nil new) ∙ ap (λ z. new ++ z) (sym none ∙ ap F (sym (drop_all i xs over))) ∙ made

-- a range of a list that has grown, and the range of what it has grown by
pub slice_range-append : (xs ys : List ℕ) (i j : ℕ) → i ≤ j → j ≤ length xs
    → slice_range (xs ++ ys) i j ≡ slice_range xs i j
slice_range-append xs ys i j h g =
    let a : i ≤ length xs = omega arith in
    let b : j - i ≤ length (drop i xs) = grind (arith, common_steps, h, g) in
    rw (drop-append-le i xs ys a) (take-append-le (j - i) (drop i xs) ys b)

pub slice_range-seam : (xs ys : List ℕ) (n : ℕ) → n ≡ length xs + length ys → slice_range (xs ++ ys) (length xs) n ≡ ys
slice_range-seam xs ys n e = rw (drop-append_seam xs ys) (grind (arith, common_steps, e))

-- A list that is changed in place: at a turn an element is taken out, something lies in its place meanwhile, and what
-- is made of it is set there.
pub record Turned {X : Type 0} (xs ys : List X) (i : ℕ) (new : X) : Type 0 where
  pub count : length ys ≡ length xs
  pub unvisited : (k : ℕ) (d : X) → i + 1 ≤ k → get_or ys k d ≡ get_or xs k d
  pub made : take (i + 1) ys ≡ take i xs ++ new ∷ []
  pub left : drop (i + 1) ys ≡ drop (i + 1) xs

pub turned : {X : Type 0} (xs : List X) (i : ℕ) (out new : X) → i < length xs
    → Turned xs (set (set xs i out) i new) i new
turned xs i out new lt = record {
  count = length-set (set xs i out) i new ∙ length-set xs i out;
  unvisited = λ k d h.
      let other : k ≢ i = omega arith in
      get_or-set_other (set xs i out) i k new d other ∙ get_or-set_other xs i k out d other;
  made = take_more_set (set xs i out) i new (omega (arith, length-set xs i out))
      ∙ ap (λ z. z ++ new ∷ []) (take-set xs i out);
  left = drop-set-lt (i + 1) (set xs i out) i new (omega arith) ∙ drop-set-lt (i + 1) xs i out (omega arith);
}
