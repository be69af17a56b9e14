-- Lists that a function of the place gives, and the least number that passes a test.
use Rattle.std.proofs.Common.{◌≡◌, ℕ, zero, suc, ◌<◌, ◌≤◌, Bool, true, false, List, [], ◌∷◌, length, get_or, refl}
use Rattle.std.proofs.Common.{sym, arith}
use Rattle.std.proofs.lemmas.Bool.{true≢false}

abbrev pub listed : {A : Type 0} → ℕ → (ℕ → A) → List A
listed zero f = []
listed (suc n) f = f zero ∷ listed n (λ i. f (suc i))

pub length-listed : {A : Type 0} (n : ℕ) (f : ℕ → A) → length (listed n f) ≡ n
length-listed zero f = refl
length-listed (suc n) f = let rest = length-listed n (λ i. f (suc i)) in omega (arith, rest)

pub listed-at : {A : Type 0} (n i : ℕ) (f : ℕ → A) (d : A) → i < n → get_or (listed n f) i d ≡ f i
listed-at zero i f d lt = absurd (omega (arith, lt))
listed-at (suc n) zero f d lt = refl
listed-at (suc n) (suc i) f d lt = listed-at n i (λ j. f (suc j)) d (omega (arith, lt))

abbrev pick : Bool → ℕ → ℕ
pick true n = zero
pick false n = n

-- the first number that passes, of those up to n
abbrev pub least : (ℕ → Bool) → ℕ → ℕ
least p zero = zero
least p (suc n) = pick (p zero) (suc (least (λ i. p (suc i)) n))

pick-le : (b : Bool) (m n : ℕ) → m ≤ n → pick b m ≤ n
pick-le true m n le = omega arith
pick-le false m n le = le

pick-holds : (p : ℕ → Bool) (b : Bool) (m : ℕ) → p zero ≡ b → p m ≡ true → p (pick b m) ≡ true
pick-holds p true m e t = e
pick-holds p false m e t = t

pick-zero : (b : Bool) (m : ℕ) → b ≡ true → pick b m ≤ zero
pick-zero true m e = omega arith
pick-zero false m e = absurd (true≢false (sym e))

pub least-within : (p : ℕ → Bool) (n : ℕ) → least p n ≤ n
least-within p zero = omega arith
least-within p (suc n) =
    let rest = least-within (λ i. p (suc i)) n in
    pick-le (p zero) (suc (least (λ i. p (suc i)) n)) (suc n) (omega (arith, rest))

pub least-holds : (p : ℕ → Bool) (n : ℕ) → p n ≡ true → p (least p n) ≡ true
least-holds p zero t = t
least-holds p (suc n) t =
    pick-holds p (p zero) (suc (least (λ i. p (suc i)) n)) refl (least-holds (λ i. p (suc i)) n t)

pub least-first : (p : ℕ → Bool) (n x : ℕ) → p x ≡ true → least p n ≤ x
least-first p zero x t = omega arith
least-first p (suc n) zero t = pick-zero (p zero) (suc (least (λ i. p (suc i)) n)) t
least-first p (suc n) (suc x) t =
    let rest = least-first (λ i. p (suc i)) n x t in
    pick-le (p zero) (suc (least (λ i. p (suc i)) n)) (suc x) (omega (arith, rest))
