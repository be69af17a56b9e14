-- The applications of the functions of a row are those of all functions into its sort.
use Rattle.std.proofs.Common.{◌≡◌, ℕ, zero, suc, ◌+◌, ◌<◌, Bool, true, false, ◌==◌, cond, List, [], ◌∷◌, length}
use Rattle.std.proofs.Common.{get_or, take, map, sum_by, refl, sym, ap, ◌∙◌, subst, arith}
use Rattle.std.specs.Prelude.{All}
use Rattle.std.proofs.lemmas.List.{length-map, get_or-map, take_more, map-append}
use Rattle.std.proofs.lemmas.List.Sums.{sum_by-append, sum_by_push}
use Rattle.std.proofs.lemmas.List.Elements.{All-append}
use Rattle.fol_sig.specs.declared.FunId.{FunId}
use Rattle.fol_sig.specs.Symbols.{Symbols}
use Rattle.fol_formula.specs.Counts.{saturated}
use Rattle.ground_terms.specs.FunctionRows.{functions_into}
use Rattle.ground_terms.specs.TermCounts.{sum_below, application_count}
use Rattle.ground_size.specs.Walks.{own_count}
use Rattle.ground_size.proofs.Saturated.{sat-sat, plus-alike}

abbrev pub number : FunId → ℕ
number f = f.0

pub row-sum : (sig : Symbols) (counts : List ℕ) (n k : ℕ)
    → sum_by (own_count sig counts) (functions_into sig n k) ≡ sum_below n (application_count sig counts k)
row-sum sig counts zero k = refl
row-sum sig counts (suc n) k =
    sum_by-append (own_count sig counts) (functions_into sig n k) (cond (sig.into_of n == k) (n ∷ []) [])
    ∙ ap (λ m. m + sum_by (own_count sig counts) (cond (sig.into_of n == k) (n ∷ []) [])) (row-sum sig counts n k)
    ∙ ap (λ m. sum_below n (application_count sig counts k) + m) (one (sig.into_of n == k))
  where
    one : (b : Bool) → sum_by (own_count sig counts) (cond b (n ∷ []) []) ≡ cond b (own_count sig counts n) 0
    one true = omega arith
    one false = refl

pub row-known : (sig : Symbols) (n k : ℕ) → All (λ f. f < n) (functions_into sig n k)
row-known sig zero k = λ i d lt. absurd (omega arith)
row-known sig (suc n) k =
    All-append (λ f. f < suc n) (functions_into sig n k) (cond (sig.into_of n == k) (n ∷ []) [])
    (λ i d lt. let h = row-known sig n k i d lt in omega (arith, h)) (one (sig.into_of n == k))
  where
    one : (b : Bool) → All (λ f. f < suc n) (cond b (n ∷ []) [])
    one true zero d lt = omega arith
    one true (suc i) d lt = absurd (omega arith)
    one false i d lt = absurd (omega arith)

pub at-number : (P : ℕ → Type 0) (fs : List FunId) (i : ℕ) (d : FunId) → All P (map number fs) → i < length fs
    → P (number (get_or fs i d))
at-number P fs i d all lt =
    subst P (get_or-map number fs i d 0 lt) (all i 0 (subst (λ n. i < n) (sym (length-map fs number)) lt))

-- one more function of a row that is gone through
pub sum-turn : (g : ℕ → ℕ) (fs : List FunId) (start n m m' : ℕ) (i : ℕ) (d : FunId) → i < length fs
    → n ≡ saturated (g (number (get_or fs i d)))
    → m ≡ saturated (start + sum_by g (map number (take i fs))) → m' ≡ saturated (m + n)
    → m' ≡ saturated (start + sum_by g (map number (take (i + 1) fs)))
sum-turn g fs start n m m' i d lt is h e =
    let f = number (get_or fs i d) in
    let sum = sum_by g (map number (take i fs)) in
    let more : sum_by g (map number (take (i + 1) fs)) ≡ sum + g f =
    ap (λ xs. sum_by g (map number xs)) (take_more fs i d lt)
    ∙ ap (sum_by g) (map-append number (take i fs) (get_or fs i d ∷ []))
    ∙ sum_by_push g (map number (take i fs)) f in
    let a = ap (λ x. saturated (x + n)) h ∙ ap (λ x. saturated (saturated (start + sum) + x)) is in
    e ∙ a ∙ plus-alike (saturated (start + sum)) (start + sum) (saturated (g f)) (g f) (sat-sat (start + sum))
    (sat-sat (g f)) ∙ ap saturated (omega (arith, more))
