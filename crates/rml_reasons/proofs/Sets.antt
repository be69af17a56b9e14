-- Lists of conjectures, some of which are left out.
use Rattle.std.proofs.Common.{◌≡◌, ◌==◌, ◌<◌, ◌≤◌, ◌+◌, inl, inr, ℕ, zero, suc, Bool, true, false, cond, not}
use Rattle.std.proofs.Common.{List, [], ◌∷◌, length, refl, sym, ap, ◌∙◌, subst, arith}
use Rattle.std.specs.Prelude.{All, slice_index_or}
use Rattle.std.specs.List.{AllByRecursion, filter}
use Rattle.std.proofs.lemmas.Bool.Decides.{Decides-eqb}
use Rattle.base.specs.Lists.{count_from}
use Rattle.rml_command.specs.Models.{ModelTree}
use Rattle.rml_command.specs.InductiveSets.{Has}
use Rattle.rml_reasons.specs.Reasons.{IsAscending, AreConjectures, without}

each : (P : ℕ → Type 0) (ks : List ℕ) → All P ks → AllByRecursion P ks
each P [] h = tt
each P (k ∷ ks) h = (h 0 k (omega arith), each P ks (λ i d lt. h (suc i) d (omega (arith, lt))))

at-places : (P : ℕ → Type 0) (ks : List ℕ) → AllByRecursion P ks → All P ks
at-places P [] h i d lt = absurd (omega (arith, lt))
at-places P (k ∷ ks) h zero d lt = h.0
at-places P (k ∷ ks) h (suc i) d lt = at-places P ks h.1 i d (omega (arith, lt))

-- each number at its place is one of them
pub has_at : (ks : List ℕ) (i d : ℕ) → i < length ks → Has ks (slice_index_or ks i d)
has_at [] i d lt = absurd (omega (arith, lt))
has_at (k ∷ ks) zero d lt = inl refl
has_at (k ∷ ks) (suc i) d lt = inr (has_at ks i d (omega (arith, lt)))

-- a filter leaves what is so of each
all-filter : (P : ℕ → Type 0) (p : ℕ → Bool) (ks : List ℕ) → AllByRecursion P ks → AllByRecursion P (filter p ks)
all-filter P p [] h = tt
all-filter P p (k ∷ ks) h = go (p k) h.0 (all-filter P p ks h.1)
  where
    go : (b : Bool) → P k → AllByRecursion P (filter p ks) → AllByRecursion P (cond b (k ∷ filter p ks) (filter p ks))
    go true here rest = (here, rest)
    go false here rest = rest

ascending-filter : (p : ℕ → Bool) (ks : List ℕ) → IsAscending ks → IsAscending (filter p ks)
ascending-filter p [] h = tt
ascending-filter p (k ∷ ks) h = go (p k) (all-filter (λ n. k < n) p ks h.0) (ascending-filter p ks h.1)
  where
    go : (b : Bool) → AllByRecursion (λ n. k < n) (filter p ks) → IsAscending (filter p ks)
        → IsAscending (cond b (k ∷ filter p ks) (filter p ks))
    go true here rest = (here, rest)
    go false here rest = rest

pub fewer_conjectures : (m : ModelTree) (k : ℕ) (ks : List ℕ) → AreConjectures m ks → AreConjectures m (without k ks)
fewer_conjectures m k ks h = (
  at-places (λ n. n < length m.conjectures) (without k ks)
      (all-filter (λ n. n < length m.conjectures) (λ n. not (k == n)) ks
      (each (λ n. n < length m.conjectures) ks h.0)),
  ascending-filter (λ n. not (k == n)) ks h.1,
)

-- of all below a bound those but one are below it
pub fewer_below : (most k : ℕ) (ks : List ℕ) → All (λ n. n < most) ks → All (λ n. n < most) (without k ks)
fewer_below most k ks h =
    at-places (λ n. n < most) (without k ks)
    (all-filter (λ n. n < most) (λ n. not (k == n)) ks (each (λ n. n < most) ks h))

pub no_conjectures : (m : ModelTree) → AreConjectures m []
no_conjectures m = (λ i d lt. absurd (omega (arith, lt)), tt)

pub one_conjecture : (m : ModelTree) (k : ℕ) → k < length m.conjectures → AreConjectures m (k ∷ [])
one_conjecture m k lt = (at-places (λ n. n < length m.conjectures) (k ∷ []) (lt, tt), (tt, tt))

count-above : (k from n : ℕ) → k < from → AllByRecursion (λ i. k < i) (count_from from n)
count-above k from zero lt = tt
count-above k from (suc n) lt = (lt, count-above k (suc from) n (omega (arith, lt)))

count-ascending : (from n : ℕ) → IsAscending (count_from from n)
count-ascending from zero = tt
count-ascending from (suc n) = (count-above from (suc from) n (omega arith), count-ascending (suc from) n)

count-below : (most from n : ℕ) → from + n ≤ most → AllByRecursion (λ i. i < most) (count_from from n)
count-below most from zero le = tt
count-below most from (suc n) le = (omega (arith, le), count-below most (suc from) n (omega (arith, le)))

pub all_conjectures : (m : ModelTree) → AreConjectures m (count_from 0 (length m.conjectures))
all_conjectures m = (
  at-places (λ n. n < length m.conjectures) (count_from 0 (length m.conjectures))
      (count-below (length m.conjectures) 0 (length m.conjectures) (omega arith)),
  count-ascending 0 (length m.conjectures),
)

-- where one of them is left out, fewer are left
filter-le : (p : ℕ → Bool) (ks : List ℕ) → length (filter p ks) ≤ length ks
filter-le p [] = omega arith
filter-le p (x ∷ xs) = go (p x) (filter-le p xs)
  where
    go : (b : Bool) → length (filter p xs) ≤ length xs
        → length (cond b (x ∷ filter p xs) (filter p xs)) ≤ length (x ∷ xs)
    go true h = omega (arith, h)
    go false h = omega (arith, h)

filter-shorter : (p : ℕ → Bool) (ks : List ℕ) (k : ℕ) → Has ks k → p k ≡ false → length (filter p ks) < length ks
filter-shorter p [] k h e = absurd h
filter-shorter p (x ∷ xs) k (inl is) e =
    let fails : p x ≡ false = ap p is ∙ e in
    let le = filter-le p xs in
    subst (λ (b : Bool). length (cond b (x ∷ filter p xs) (filter p xs)) < length (x ∷ xs)) (sym fails)
    (omega (arith, le))
filter-shorter p (x ∷ xs) k (inr h) e = go (p x) (filter-shorter p xs k h e)
  where
    go : (b : Bool) → length (filter p xs) < length xs
        → length (cond b (x ∷ filter p xs) (filter p xs)) < length (x ∷ xs)
    go true h = omega (arith, h)
    go false h = omega (arith, h)

pub without_shorter : (k : ℕ) (ks : List ℕ) → Has ks k → length (without k ks) < length ks
without_shorter k ks h =
    let same : (k == k) ≡ true = (Decides-eqb k k).1 refl in
    filter-shorter (λ n. not (k == n)) ks k h (ap not same)
