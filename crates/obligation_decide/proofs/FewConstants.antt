-- A sentence has no more constants than there are ground terms, since each constant is one.
use Rattle.std.proofs.Common.{◌≡◌, ℕ, zero, suc, ◌+◌, ◌<◌, ◌≤◌, ◌^◌, Bool, true, false, ◌==◌, List, [], ◌∷◌}
use Rattle.std.proofs.Common.{length, get_or, sum, Option, Some, None, refl, sym, ap, ◌∙◌, subst, arith, ⊎_elim}
use Rattle.std.specs.Prelude.{nat_lt, if◌then◌else◌}
use Rattle.std.proofs.lemmas.Bool.{cond-true, eq-eqb, cases_lt, ltb-false}
use Rattle.std.proofs.lemmas.List.Sums.{sum_by-cons}
use Rattle.fol_sig.specs.Tables.{Declared, tuple_count}
use Rattle.fol_sig.specs.Symbols.{Symbols, symbols}
use Rattle.fol_sig.specs.Growing.{GrowsBy}
use Rattle.fol_formula.specs.Syntax.{FormTree}
use Rattle.ground_terms.specs.TermCounts.{sum_below, or_one, application_count, AreCounts}
use Rattle.ground_size.specs.Counting.{skolem_signature}
use Rattle.limits.specs.Ceilings.{Ceilings}
use Rattle.ea_decide.specs.Passing.{Passes}

-- sums of the numbers below a bound
sum_below-at : (n : ℕ) (f : ℕ → ℕ) (k : ℕ) → k < n → f k ≤ sum_below n f
sum_below-at zero f k lt = absurd (omega arith)
sum_below-at (suc n) f k lt =
    ⊎_elim
    (λ less. let below = sum_below-at n f k less in omega (arith, below))
    (λ no. let same : k ≡ n = omega (arith, no, lt) in let here = ap f same in omega (arith, here))
    (cases_lt k n)

sum_below-le : (n : ℕ) (f g : ℕ → ℕ) → ((k : ℕ) → k < n → f k ≤ g k) → sum_below n f ≤ sum_below n g
sum_below-le zero f g le = omega arith
sum_below-le (suc n) f g le =
    let below = sum_below-le n f g (λ k lt. le k (omega (arith, lt))) in
    let last = le n (omega arith) in
    omega (arith, below, last)

sum_below-both : (n : ℕ) (f g : ℕ → ℕ) → sum_below n (λ k. f k + g k) ≡ sum_below n f + sum_below n g
sum_below-both zero f g = refl
sum_below-both (suc n) f g = let below = sum_below-both n f g in omega (arith, below)

sum_below-first : (n : ℕ) (f : ℕ → ℕ) → sum_below (suc n) f ≡ f 0 + sum_below n (λ k. f (suc k))
sum_below-first zero f = omega arith
sum_below-first (suc n) f = let below = sum_below-first n f in omega (arith, below)

sum-below : (xs : List ℕ) → sum_below (length xs) (λ k. get_or xs k 0) ≡ sum xs
sum-below [] = refl
sum-below (x ∷ xs) =
    sum_below-first (length xs) (λ k. get_or (x ∷ xs) k 0) ∙ ap (λ n. x + n) (sum-below xs)
    ∙ sym (sum_by-cons (λ (n : ℕ). n) x xs)

or_one-le : (n : ℕ) → n ≤ or_one n
or_one-le zero = omega arith
or_one-le (suc n) = omega arith

-- a term of each constant stands in its sort
module _ (more : Symbols) (counts : List ℕ) where
  -- the applications of a function, and those of the first n, over all sorts
  abbrev of_function : ℕ → ℕ
  of_function f = sum_below more.sorts (λ k. application_count more counts k f)

  applications : ℕ → ℕ
  applications n = sum_below more.sorts (λ k. sum_below n (application_count more counts k))

  applications-more : (n : ℕ) → applications (suc n) ≡ applications n + of_function n
  unfolding applications
  applications-more n =
      let first = λ (k : ℕ). sum_below n (application_count more counts k) in
      sum_below-both more.sorts first (λ k. application_count more counts k n)

  -- a constant has one
  constant-counts : (f : ℕ) → more.from_of f ≡ [] → more.into_of f < more.sorts → 1 ≤ of_function f
  constant-counts f none into =
      let k = more.into_of f in
      let one : application_count more counts k f ≡ 1 =
      cond-true (k == k) (tuple_count counts (more.from_of f)) 0 (eq-eqb k k refl) ∙ ap (tuple_count counts) none in
      let least = sum_below-at more.sorts (λ j. application_count more counts j f) k into in
      omega (arith, one, least)

  module _ (sig : Symbols) (ks : List ℕ) (grows : GrowsBy sig ks more) where
    constants-count : (i : ℕ) → i ≤ length ks → i ≤ applications (sig.functions + i)
    constants-count zero le = omega arith
    constants-count (suc i) le =
        let f = sig.functions + i in
        let lt : f < more.functions = let count = grows.count in omega (arith, le, count) in
        let first : sig.functions ≤ f = omega arith in
        let before = constants-count i (omega (arith, le)) in
        let into : more.into_of f < more.sorts =
        subst (λ n. more.into_of f < n) (sym grows.grows.sorts) (grows.grows.new_into f first lt) in
        let one = constant-counts f (grows.grows.new_from f first lt) into in
        let step = applications-more f in
        let same : sig.functions + suc i ≡ suc f = omega arith in
        subst (λ n. suc i ≤ applications n) (sym same) (omega (arith, before, one, step))

    pub constants_few : AreCounts more counts → length ks ≤ sum counts
    unfolding applications
    constants_few h =
        let into = λ (k : ℕ). sum_below more.functions (application_count more counts k) in
        let terms = λ (k : ℕ). get_or counts k 0 in
        let all : length ks ≤ applications more.functions =
        subst (λ n. length ks ≤ applications n) (sym grows.count) (constants-count (length ks) (omega arith)) in
        let each : applications more.functions ≤ sum_below more.sorts terms =
        sum_below-le more.sorts into terms
        (λ k lt. let least = or_one-le (into k) in let is = h.each k lt in omega (arith, least, is)) in
        let whole : sum_below more.sorts terms ≡ sum counts =
        ap (λ n. sum_below n terms) (sym h.sorts) ∙ sum-below counts in
        omega (arith, all, each, whole)

none-passed : {A : Type 0} (b : Bool) (x : A) (y : Option A) → None ≡ (if b then Some x else y) → b ≡ false
none-passed true x y e = absurd (cc e)
none-passed false x y e = refl

-- where no limit is passed there are few
pub few : (limits : Ceilings) (sig : Declared) (ks : List ℕ) (p : FormTree)
    → GrowsBy (symbols sig) ks (symbols (skolem_signature sig p)) → limits.terms ≤ 100000 → length sig.functions ≤ 1000
    → Passes limits sig p None → length sig.functions + length ks < 2 ^ 32
few limits sig ks p grows terms functions h =
    let some = constants_few (symbols (skolem_signature sig p)) h.counts (symbols sig) ks grows h.terms in
    let within = ltb-false limits.terms (sum h.counts) (none-passed (nat_lt limits.terms (sum h.counts)) _ _ h.first) in
    omega (arith, some, within, terms, functions)
