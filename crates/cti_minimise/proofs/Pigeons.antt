-- Where each number below m is the value of some index below n, m is at most n.
use Rattle.std.proofs.Common.{◌≡◌, ℕ, zero, suc, ◌+◌, ◌-◌, ◌<◌, ◌≤◌, Bool, true, cond, List, length, get_or, take}
use Rattle.std.proofs.Common.{ap, ◌∙◌, ⊎_elim, arith}
use Rattle.std.specs.Prelude.{nat_lt, count_by}
use Rattle.std.proofs.lemmas.List.Sums.{count_by_more_yes, count_by_more_no}
use Rattle.std.proofs.lemmas.Bool.{cond-true, cond-false, lt-ltb, le-ltb, cases_lt, cases_eq, cases_Bool}

-- the values without that of index k
abbrev without : (ℕ → ℕ) → ℕ → ℕ → ℕ
without f k i = cond (nat_lt i k) (f i) (f (suc i))

abbrev pub IsValue : (ℕ → ℕ) → ℕ → ℕ → Type 0
IsValue f n x = (i : ℕ) × (i < n) × (f i ≡ x)

-- another value than that of k is still there
kept : (f : ℕ → ℕ) (n k x : ℕ) → k < suc n → x < f k → IsValue f (suc n) x → IsValue (without f k) n x
kept f n k x below less at =
    ⊎_elim
    (λ before. (
      at.0,
      omega (arith, before, below),
      cond-true (nat_lt at.0 k) (f at.0) (f (suc at.0)) (lt-ltb at.0 k before) ∙ at.2,
    ))
    (λ behind.
    ⊎_elim
    (λ same. let e = ap f same in let is = at.2 in absurd (omega (arith, e, is, less)))
    (λ other.
    let j = at.0 - 1 in
    let within = at.1 in
    let next : suc j ≡ at.0 = omega (arith, behind, other) in
    let least : k ≤ j = omega (arith, behind, other) in (
      j,
      omega (arith, next, within),
      cond-false (nat_lt j k) (f j) (f (suc j)) (le-ltb j k least) ∙ ap f next ∙ at.2,
    ))
    (cases_eq at.0 k))
    (cases_lt at.0 k)

pub pigeons : (m n : ℕ) (f : ℕ → ℕ) → ((x : ℕ) → x < m → IsValue f n x) → m ≤ n
pigeons zero n f each = omega arith
pigeons (suc m) zero f each = let at = each m (omega arith) in let none = at.1 in absurd (omega (arith, none))
pigeons (suc m) (suc n) f each =
    let last = each m (omega arith) in
    let is = last.2 in
    let less = pigeons m n (without f last.0)
    (λ x lt. kept f n last.0 x last.1 (omega (arith, lt, is)) (each x (omega (arith, lt)))) in
    omega (arith, less)

-- Where the place of each of the first m that pass is the value of some index below n, at most n pass.
module _ {X : Type 0} (p : X → Bool) (xs : List X) (d : X) where
  abbrev AreValues : (ℕ → ℕ) → ℕ → ℕ → Type 0
  AreValues f n m = (x : ℕ) → x < m → p (get_or xs x d) ≡ true → IsValue f n x

  one-more : (m : ℕ) → ((n : ℕ) (f : ℕ → ℕ) → AreValues f n m → count_by p (take m xs) ≤ n)
      → p (get_or xs m d) ≡ true → (n : ℕ) (f : ℕ → ℕ) → AreValues f n (suc m) → count_by p (take m xs) + 1 ≤ n
  one-more m few pass zero f each =
      let at = each m (omega arith) pass in let none = at.1 in absurd (omega (arith, none))
  one-more m few pass (suc n) f each =
      let last = each m (omega arith) pass in
      let is = last.2 in
      let less = few n (without f last.0)
      (λ x lt here. kept f n last.0 x last.1 (omega (arith, lt, is)) (each x (omega (arith, lt)) here)) in
      omega (arith, less)

  pub counted : (m n : ℕ) (f : ℕ → ℕ) → m ≤ length xs → AreValues f n m → count_by p (take m xs) ≤ n
  counted zero n f le each = omega arith
  counted (suc m) n f le each =
      let next : m + 1 ≡ suc m = omega arith in
      let same = ap (λ i. count_by p (take i xs)) next in
      let lt : m < length xs = omega (arith, le) in
      ⊎_elim
      (λ yes.
      let more = count_by_more_yes p xs m d lt yes in
      let few = one-more m (λ k g values. counted m k g (omega (arith, lt)) values) yes n f each in
      omega (arith, same, more, few))
      (λ no.
      let more = count_by_more_no p xs m d lt no in
      let few = counted m n f (omega (arith, lt)) (λ x less. each x (omega (arith, less))) in
      omega (arith, same, more, few))
      (cases_Bool (p (get_or xs m d)))
