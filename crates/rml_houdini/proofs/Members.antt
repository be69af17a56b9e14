-- The numbers in a list, those that a filter leaves, and the first so many numbers.
use Rattle.std.proofs.Common.{◌≡◌, ◌==◌, ◌<◌, ◌≤◌, ◌+◌, ◌⊎◌, inl, inr, ℕ, zero, suc, Bool, true, false, cond, not}
use Rattle.std.proofs.Common.{◌&&◌, ◌||◌, List, [], ◌∷◌, ◌++◌, length, refl, sym, ap, ◌∙◌, subst, arith}
use Rattle.std.specs.List.{filter, list_any}
use Rattle.std.proofs.lemmas.Bool.Decides.{Decides-eqb}
use Rattle.base.specs.Lists.{count_from}
use Rattle.rml_command.specs.InductiveSets.{Has}
use Rattle.rml_houdini.specs.Greatest.{AreDistinct}

pub has_push : (ks : List ℕ) (c k : ℕ) → Has (ks ++ c ∷ []) k → Has ks k ⊎ (c ≡ k)
has_push [] c k (inl is) = inr is
has_push [] c k (inr h) = absurd h
has_push (x ∷ xs) c k (inl is) = inl (inl is)
has_push (x ∷ xs) c k (inr h) = elim (has_push xs c k h) [ inl a ↦ inl (inr a) | inr b ↦ inr b ]

pub distinct_push : (ks : List ℕ) (c : ℕ) → AreDistinct ks → (Has ks c → ⊥) → AreDistinct (ks ++ c ∷ [])
distinct_push [] c h new = (λ a. a, tt)
distinct_push (k ∷ ks) c h new = (
  (λ a. elim (has_push ks c k a) [ inl b ↦ h.0 b | inr is ↦ new (inl (sym is)) ]),
  distinct_push ks c h.1 (λ a. new (inr a)),
)

-- a filter keeps what passes
has-kept : (b : Bool) (x k : ℕ) (xs : List ℕ) → Has xs k → Has (cond b (x ∷ xs) xs) k
has-kept true x k xs h = inr h
has-kept false x k xs h = h

pub has_filter : (p : ℕ → Bool) (ks : List ℕ) (k : ℕ) → Has ks k → p k ≡ true → Has (filter p ks) k
has_filter p [] k h e = absurd h
has_filter p (x ∷ xs) k (inl is) e =
    let passes : p x ≡ true = ap p is ∙ e in
    subst (λ (b : Bool). Has (cond b (x ∷ filter p xs) (filter p xs)) k) (sym passes) (inl is)
has_filter p (x ∷ xs) k (inr h) e = has-kept (p x) x k (filter p xs) (has_filter p xs k h e)

-- and nothing else
pub from_filter : (p : ℕ → Bool) (ks : List ℕ) (k : ℕ) → Has (filter p ks) k → Has ks k × (p k ≡ true)
from_filter p [] k h = absurd h
from_filter p (x ∷ xs) k h = go (p x) refl (from_filter p xs k) h
  where
    go : (b : Bool) → p x ≡ b → (Has (filter p xs) k → Has xs k × (p k ≡ true))
        → Has (cond b (x ∷ filter p xs) (filter p xs)) k → Has (x ∷ xs) k × (p k ≡ true)
    go true e rest (inl is) = (inl is, sym (ap p is) ∙ e)
    go true e rest (inr a) = let r = rest a in (inr r.0, r.1)
    go false e rest a = let r = rest a in (inr r.0, r.1)

filter-le : (p : ℕ → Bool) (ks : List ℕ) → length (filter p ks) ≤ length ks
filter-le p [] = omega arith
filter-le p (x ∷ xs) = go (p x) (filter-le p xs)
  where
    go : (b : Bool) → length (filter p xs) ≤ length xs
        → length (cond b (x ∷ filter p xs) (filter p xs)) ≤ length (x ∷ xs)
    go true h = omega (arith, h)
    go false h = omega (arith, h)

-- where one of them does not pass, fewer are left
pub filter_shorter : (p : ℕ → Bool) (ks : List ℕ) (k : ℕ) → Has ks k → p k ≡ false
    → length (filter p ks) < length ks
filter_shorter p [] k h e = absurd h
filter_shorter p (x ∷ xs) k (inl is) e =
    let fails : p x ≡ false = ap p is ∙ e in
    let le = filter-le p xs in
    subst (λ (b : Bool). length (cond b (x ∷ filter p xs) (filter p xs)) < length (x ∷ xs)) (sym fails)
    (omega (arith, le))
filter_shorter p (x ∷ xs) k (inr h) e = go (p x) (filter_shorter p xs k h e)
  where
    go : (b : Bool) → length (filter p xs) < length xs
        → length (cond b (x ∷ filter p xs) (filter p xs)) < length (x ∷ xs)
    go true h = omega (arith, h)
    go false h = omega (arith, h)

filter-twice : (p q : ℕ → Bool) (ks : List ℕ) → filter q (filter p ks) ≡ filter (λ x. p x && q x) ks
filter-twice p q [] = refl
filter-twice p q (x ∷ xs) = go (p x) (filter-twice p q xs)
  where
    go : (b : Bool) → filter q (filter p xs) ≡ filter (λ y. p y && q y) xs
        → filter q (cond b (x ∷ filter p xs) (filter p xs))
        ≡ cond (b && q x) (x ∷ filter (λ y. p y && q y) xs) (filter (λ y. p y && q y) xs)
    go true h = ap (λ (l : List ℕ). cond (q x) (x ∷ l) l) h
    go false h = h

filter-same : (p q : ℕ → Bool) → ((x : ℕ) → p x ≡ q x) → (ks : List ℕ) → filter p ks ≡ filter q ks
filter-same p q same [] = refl
filter-same p q same (x ∷ xs) =
    ap (λ (b : Bool). cond b (x ∷ filter p xs) (filter p xs)) (same x)
    ∙ ap (λ (l : List ℕ). cond (q x) (x ∷ l) l) (filter-same p q same xs)

-- the test by which a name is left out
named-push : (names : List ℕ) (c k : ℕ)
    → (not (list_any (λ n. n == k) names) && not (c == k)) ≡ not (list_any (λ n. n == k) (names ++ c ∷ []))
named-push [] c k = go (c == k)
  where
    go : (b : Bool) → (true && not b) ≡ not (b || false)
    go true = refl
    go false = refl
named-push (n ∷ names) c k = go (n == k) (named-push names c k)
  where
    go : (b : Bool)
        → (not (list_any (λ x. x == k) names) && not (c == k)) ≡ not (list_any (λ x. x == k) (names ++ c ∷ []))
        → (not (b || list_any (λ x. x == k) names) && not (c == k))
        ≡ not (b || list_any (λ x. x == k) (names ++ c ∷ []))
    go true h = refl
    go false h = h

-- one more name leaves out one more
pub all_but_push : (names : List ℕ) (c : ℕ) (ks : List ℕ)
    → filter (λ k. not (c == k)) (filter (λ k. not (list_any (λ n. n == k) names)) ks)
    ≡ filter (λ k. not (list_any (λ n. n == k) (names ++ c ∷ []))) ks
all_but_push names c ks =
    filter-twice (λ k. not (list_any (λ n. n == k) names)) (λ k. not (c == k)) ks
    ∙ filter-same (λ k. not (list_any (λ n. n == k) names) && not (c == k))
    (λ k. not (list_any (λ n. n == k) (names ++ c ∷ []))) (named-push names c) ks

-- a name is not left
pub is-named : (names : List ℕ) (k : ℕ) → Has names k → list_any (λ n. n == k) names ≡ true
is-named [] k h = absurd h
is-named (n ∷ names) k (inl is) =
    let here : (n == k) ≡ true = (Decides-eqb n k).1 is in ap (λ (b : Bool). b || list_any (λ x. x == k) names) here
is-named (n ∷ names) k (inr h) = go (n == k) (is-named names k h)
  where
    go : (b : Bool) → list_any (λ x. x == k) names ≡ true → (b || list_any (λ x. x == k) names) ≡ true
    go true e = refl
    go false e = e

-- what is found in a list is one of it
pub has-named : (names : List ℕ) (k : ℕ) → list_any (λ n. n == k) names ≡ true → Has names k
has-named [] k e = absurd (cc e)
has-named (n ∷ names) k e = go (n == k) (Decides-eqb n k).0 (has-named names k) e
  where
    go : (b : Bool) → (b ≡ true → n ≡ k) → (list_any (λ x. x == k) names ≡ true → Has names k)
        → (b || list_any (λ x. x == k) names) ≡ true → Has (n ∷ names) k
    go true is rest e = inl (is refl)
    go false is rest e = inr (rest e)

pub same-fails : (c : ℕ) → not (c == c) ≡ false
same-fails c = let here : (c == c) ≡ true = (Decides-eqb c c).1 refl in ap not here

pub other-passes : (c k : ℕ) → (c ≡ k → ⊥) → not (c == k) ≡ true
other-passes c k other = go (c == k) (Decides-eqb c k).0
  where
    go : (b : Bool) → (b ≡ true → c ≡ k) → not b ≡ true
    go true h = absurd (other (h refl))
    go false h = refl

-- the first so many numbers
pub from_count : (from n k : ℕ) → Has (count_from from n) k → k < from + n
from_count from zero k h = absurd h
from_count from (suc n) k (inl is) = omega (arith, is)
from_count from (suc n) k (inr h) = let lt = from_count (suc from) n k h in omega (arith, lt)

split : (a b : ℕ) → a ≤ b → (a ≡ b) ⊎ (suc a ≤ b)
split zero zero h = inl refl
split zero (suc b) h = inr (omega arith)
split (suc a) zero h = absurd (omega (arith, h))
split (suc a) (suc b) h =
    let le : a ≤ b = omega (arith, h) in
    elim (split a b le) [ inl e ↦ inl (ap (λ n. suc n) e) | inr l ↦ inr (omega (arith, l)) ]

pub to_count : (from n k : ℕ) → from ≤ k → k < from + n → Has (count_from from n) k
to_count from zero k le lt = absurd (omega (arith, le, lt))
to_count from (suc n) k le lt =
    elim (split from k le) [
      | inl e ↦ inl e
      | inr l ↦ inr (to_count (suc from) n k l (omega (arith, lt)))
    ]
