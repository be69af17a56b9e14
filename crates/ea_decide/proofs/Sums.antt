-- Sums of counts.
use Rattle.std.proofs.Common.{
  ◌≡◌,
  ℕ,
  zero,
  suc,
  ◌+◌,
  ◌*◌,
  ◌<◌,
  ◌≤◌,
  ◌==◌,
  List,
  [],
  ◌∷◌,
  length,
  get_or,
  refl,
  sym,
  ap,
  ◌∙◌,
  arith,
  ⊎_elim,
}
use Rattle.std.specs.Prelude.{All, sum}
use Rattle.std.proofs.lemmas.Bool.{cases_lt, cond-true, eq-eqb}
use Rattle.std.proofs.lemmas.List.Sums.{sum_by-cons}
use Rattle.fol_sig.specs.Tables.{tuple_count}
use Rattle.fol_sig.specs.Symbols.{Symbols, AreSorted}
use Rattle.ground_terms.specs.TermCounts.{sum_below, or_one, application_count, AreCounts}

sum-sum : (n : ℕ) (f g : ℕ → ℕ) → sum_below n (λ x. f x + g x) ≡ sum_below n f + sum_below n g
sum-sum zero f g = refl
sum-sum (suc n) f g = let e = sum-sum n f g in omega (arith, e)

sum-one : (n : ℕ) (f : ℕ → ℕ) (x : ℕ) → x < n → f x ≤ sum_below n f
sum-one zero f x lt = absurd (omega arith)
sum-one (suc n) f x lt =
    ⊎_elim
    (λ less. let h = sum-one n f x less in omega (arith, h))
    (λ last. let e : x ≡ n = omega arith in let h = ap f e in omega (arith, h))
    (cases_lt x n)

sum-more : (n : ℕ) (f g : ℕ → ℕ) → ((x : ℕ) → x < n → f x ≤ g x) → sum_below n f ≤ sum_below n g
sum-more zero f g h = omega arith
sum-more (suc n) f g h =
    let before = sum-more n f g (λ x lt. h x (omega arith)) in
    let here = h n (omega arith) in
    omega (arith, before, here)

sum-front : (n : ℕ) (f : ℕ → ℕ) → sum_below (suc n) f ≡ f 0 + sum_below n (λ x. f (suc x))
sum-front zero f = omega arith
sum-front (suc n) f = let e = sum-front n f in omega (arith, e)

sum-cons : (x : ℕ) (xs : List ℕ) → sum (x ∷ xs) ≡ x + sum xs
sum-cons x xs = sum_by-cons (λ n. n) x xs

-- the sum of a list, place by place
sum-list : (xs : List ℕ) → sum xs ≡ sum_below (length xs) (λ k. get_or xs k 0)
sum-list [] = refl
sum-list (x ∷ xs) = sum-cons x xs ∙ ap (λ m. x + m) (sum-list xs) ∙ sym (sum-front (length xs) (λ k. get_or (x
    ∷ xs) k 0))

pub one-of-sum : (xs : List ℕ) (k : ℕ) → k < length xs → get_or xs k 0 ≤ sum xs
one-of-sum xs k lt = let one = sum-one (length xs) (λ i. get_or xs i 0) k lt in let e = sum-list xs in omega
    (arith, one, e)

pub sum-below : (xs ys : List ℕ) → length xs ≡ length ys → ((k : ℕ) → k < length xs
    → get_or xs k 0 ≤ get_or ys k 0) → sum xs ≤ sum ys
sum-below [] [] e h = omega arith
sum-below [] (y ∷ ys) e h = absurd (omega (arith, e))
sum-below (x ∷ xs) [] e h = absurd (omega (arith, e))
sum-below (x ∷ xs) (y ∷ ys) e h =
    let rest = sum-below xs ys (omega (arith, e)) (λ k lt. h (suc k) (omega (arith, lt))) in
    let here = h 0 (omega arith) in
    omega (arith, rest, here, sum-cons x xs, sum-cons y ys)

or_one-some : (n : ℕ) → 0 < or_one n
or_one-some zero = omega arith
or_one-some (suc n) = omega arith

or_one-least : (n : ℕ) → n ≤ or_one n
or_one-least zero = omega arith
or_one-least (suc n) = omega arith

product-some : (m n : ℕ) → 0 < m → 0 < n → 0 < m * n
product-some zero n some h = absurd (omega arith)
product-some (suc m) zero some h = absurd (omega arith)
product-some (suc m) (suc n) some h = omega arith

tuples-some : (counts ks : List ℕ) → All (λ k. 0 < get_or counts k 0) ks → 0 < tuple_count counts ks
tuples-some counts [] h = omega arith
tuples-some counts (k ∷ ks) h =
    product-some (get_or counts k 0) (tuple_count counts ks) (h zero 0 (omega arith))
    (tuples-some counts ks (λ i d lt. h (suc i) d (omega arith)))

module _ (sig : Symbols) (counts : List ℕ) (sorted : AreSorted sig) (are : AreCounts sig counts) where
  some : (k : ℕ) → k < sig.sorts → 0 < get_or counts k 0
  some k lt = let e = are.each k lt in let h = or_one-some (sum_below sig.functions (application_count sig counts k))
      in omega (arith, e, h)

  -- a function has a term in its sort
  has-term : (f : ℕ) → f < sig.functions → 1 ≤ sum_below sig.sorts (λ k. application_count sig counts k f)
  has-term f lt =
      let k = sig.into_of f in
      let known : k < sig.sorts = sorted.into f lt in
      let is : application_count sig counts k f ≡ tuple_count counts (sig.from_of f) =
      cond-true (sig.into_of f == k) (tuple_count counts (sig.from_of f)) 0 (eq-eqb (sig.into_of f) k refl) in
      let one = sum-one sig.sorts (λ q. application_count sig counts q f) k known in
      let there = tuples-some counts (sig.from_of f) (λ i d l. some (get_or (sig.from_of f) i d)
      (sorted.functions f lt i d l)) in
      omega (arith, is, one, there)

  functions-below : (n : ℕ) → n ≤ sig.functions
      → n ≤ sum_below sig.sorts (λ k. sum_below n (application_count sig counts k))
  functions-below zero le = omega arith
  functions-below (suc n) le =
      let before = functions-below n (omega (arith, le)) in
      let here = has-term n (omega (arith, le)) in
      let both = sum-sum sig.sorts (λ k. sum_below n (application_count sig counts k))
      (λ k. application_count sig counts k n) in
      omega (arith, before, here, both)

  -- there are no more functions than ground terms
  pub functions-few : sig.functions ≤ sum counts
  functions-few =
      let all = functions-below sig.functions (omega arith) in
      let each = sum-more sig.sorts (λ k. sum_below sig.functions (application_count sig counts k))
      (λ k. get_or counts k 0)
      (λ k lt. let e = are.each k lt in let h = or_one-least (sum_below sig.functions
      (application_count sig counts k)) in omega (arith, e, h)) in
      let listed = sum-list counts in
      let same = ap (λ n. sum_below n (λ k. get_or counts k 0)) are.sorts in
      omega (arith, all, each, listed, same)
