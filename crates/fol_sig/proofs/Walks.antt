-- What is left of a walk over all tuples.
use Rattle.std.proofs.Common.{◌≡◌, ℕ, zero, suc, ◌+◌, ◌<◌, ◌≤◌, List, [], ◌∷◌, length, map, drop, ap, ◌∙◌, arith}
use Rattle.std.specs.Prelude.{slice_index}
use Rattle.std.specs.List.{AllByRecursion}
use Rattle.std.proofs.lemmas.List.{drop_more, drop_all}
use Rattle.base.proofs.Lists.{all_append}
use Rattle.fol_sig.specs.Tables.{tuple_count, InRange}
use Rattle.fol_sig.specs.Tuples.{join_below, tuples, tuple_at}
use Rattle.fol_sig.proofs.TuplePlaces.{are_numbered}

-- the tuple with the next number is the first
pub next_left : (sizes ks : List ℕ) (n : ℕ) → n < tuple_count sizes ks
    → drop n (tuples sizes ks) ≡ tuple_at sizes ks n ∷ drop (n + 1) (tuples sizes ks)
next_left sizes ks n lt =
    let a = are_numbered sizes ks in
    let within : n < length (tuples sizes ks) = omega (arith, a.count, lt) in
    drop_more (tuples sizes ks) n [] within
    ∙ ap (λ (xs : List ℕ). xs ∷ drop (n + 1) (tuples sizes ks)) (a.listed n lt)

-- behind the last number there is none
pub none_left : (sizes ks : List ℕ) (n : ℕ) → tuple_count sizes ks ≤ n → drop n (tuples sizes ks) ≡ []
none_left sizes ks n le = drop_all n (tuples sizes ks) (omega (arith, (are_numbered sizes ks).count, le))

in_front : (sizes ks : List ℕ) (k x : ℕ) → x < slice_index sizes k → (xss : List (List ℕ))
    → AllByRecursion (InRange sizes ks) xss → AllByRecursion (InRange sizes (k ∷ ks)) (map (λ xs. x ∷ xs) xss)
in_front sizes ks k x lt [] all = tt
in_front sizes ks k x lt (xs ∷ xss) all = ((lt, all.0), in_front sizes ks k x lt xss all.1)

in_each : (sizes ks : List ℕ) (k : ℕ) → AllByRecursion (InRange sizes ks) (tuples sizes ks) → (n : ℕ)
    → n ≤ slice_index sizes k
    → AllByRecursion (InRange sizes (k ∷ ks)) (join_below n (λ x. map (λ xs. x ∷ xs) (tuples sizes ks)))
in_each sizes ks k all zero le = tt
in_each sizes ks k all (suc n) le =
    all_append (InRange sizes (k ∷ ks)) (join_below n (λ x. map (λ xs. x ∷ xs) (tuples sizes ks)))
    (map (λ xs. n ∷ xs) (tuples sizes ks)) (in_each sizes ks k all n (omega arith))
    (in_front sizes ks k n (omega arith) (tuples sizes ks) all)

-- each of them has elements of its sorts
pub all_in_range : (sizes ks : List ℕ) → AllByRecursion (InRange sizes ks) (tuples sizes ks)
all_in_range sizes [] = (tt, tt)
all_in_range sizes (k ∷ ks) = in_each sizes ks k (all_in_range sizes ks) (slice_index sizes k) (omega arith)
