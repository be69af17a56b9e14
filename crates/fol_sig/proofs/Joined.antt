-- Lists of the numbers below another, one after another.
use Rattle.std.proofs.Common.{◌≡◌, ℕ, zero, suc, ◌+◌, ◌-◌, ◌*◌, ◌<◌, ◌≤◌, List, length, get_or, sym, ap, ◌∙◌, ⊎_elim}
use Rattle.std.proofs.Common.{length-append, arith, All}
use Rattle.std.proofs.Math.Nat.{mul-le-mul_right}
use Rattle.std.proofs.lemmas.List.{get_or_append_left, get_or-append_right}
use Rattle.std.proofs.lemmas.Bool.{cases_lt}
use Rattle.std.proofs.lemmas.List.Elements.{All-append}
use Rattle.fol_sig.specs.Tuples.{join_below}

pub length-join_below : {A : Type 0} (n size : ℕ) (f : ℕ → List A) → ((x : ℕ) → length (f x) ≡ size)
    → length (join_below n f) ≡ n * size
length-join_below zero size f h = omega arith
length-join_below (suc n) size f h =
    omega (arith, length-append (join_below n f) (f n), length-join_below n size f h, h n)

pub get_or-join_below : {A : Type 0} (n size x j : ℕ) (f : ℕ → List A) (d : A) → ((x : ℕ) → length (f x) ≡ size) → x < n
    → j < size → get_or (join_below n f) (x * size + j) d ≡ get_or (f x) j d
get_or-join_below zero size x j f d h lt lj = absurd (omega arith)
get_or-join_below (suc n) size x j f d h lt lj =
    ⊎_elim
    (λ below.
    let row : (x + 1) * size ≤ n * size = mul-le-mul_right size (omega arith) in
    let inside : x * size + j < length (join_below n f) = omega (arith, length-join_below n size f h, row) in
    get_or_append_left (join_below n f) (f n) d (x * size + j) inside ∙ get_or-join_below n size x j f d h below lj)
    (λ last.
    let e : x ≡ n = omega arith in
    let same : x * size ≡ n * size = ap (λ m. m * size) e in
    let off : (x * size + j) - n * size ≡ j = omega arith in
    get_or-append_right (join_below n f) (f n) (n * size) (x * size + j) d (length-join_below n size f h) (omega arith)
    ∙ ap (λ i. get_or (f n) i d) off
    ∙ ap (λ m. get_or (f m) j d) (sym e))
    (cases_lt x n)

-- what is so of each list is so of them all
pub All-join_below : {A : Type 0} (P : A → Type 0) (n : ℕ) (f : ℕ → List A) → ((x : ℕ) → x < n → All P (f x))
    → All P (join_below n f)
All-join_below P zero f h = λ k d lt. absurd (omega arith)
All-join_below P (suc n) f h =
    All-append P (join_below n f) (f n) (All-join_below P n f (λ x lt. h x (omega arith))) (h n (omega arith))
