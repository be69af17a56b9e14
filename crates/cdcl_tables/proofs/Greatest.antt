-- The greatest variable of a clause, a literal at a time.
use Rattle.std.proofs.Common.{◌≡◌, ℕ, ◌-◌, ◌≤◌, ◌<◌, ◌⊎◌, inl, inr, true, List, [], ◌∷◌, length, take, drop, get_or}
use Rattle.std.proofs.Common.{max, subst, arith}
use Rattle.std.proofs.lemmas.Grind.{common_steps}
use Rattle.std.proofs.lemmas.Bool.{eq-eqb, cases_lt}
use Rattle.cnf_base.specs.Literals.{member, variable_of}
use Rattle.cdcl_tables.specs.Extent.{StandsIn}

abbrev tail : List ℕ → List ℕ
tail all = take (length all - 1) (drop 1 all)

tail_is : (l : ℕ) (ls : List ℕ) → tail (l ∷ ls) ≡ ls
tail_is l ls = grind (arith, common_steps)

pub tail_among : (rest : List ℕ) (x : ℕ) → 1 ≤ length rest → member x (tail rest) ≡ true → member x rest ≡ true
tail_among [] x some h = absurd (omega arith)
tail_among (l ∷ ls) x some h =
    let q : member x ls ≡ true = subst (λ (xs : List ℕ). member x xs ≡ true) (tail_is l ls) h in
    grind (arith, common_steps, q)

pub head_among : (rest : List ℕ) (d l : ℕ) → 1 ≤ length rest → l ≡ get_or rest 0 d → member l rest ≡ true
head_among [] d l some is = absurd (omega arith)
head_among (x ∷ xs) d l some is = let q = eq-eqb l x is in grind (arith, common_steps, q)

-- what holds of the first and of those behind it holds of each
pub each_up_to : (n : ℕ) (rest : List ℕ) (d l : ℕ) → 1 ≤ length rest → l ≡ get_or rest 0 d → variable_of l ≤ n
    → ((x : ℕ) → member x (tail rest) ≡ true → variable_of x ≤ n) → (x : ℕ) → member x rest ≡ true
    → variable_of x ≤ n
each_up_to n [] d l some is here later x h = absurd (omega arith)
each_up_to n (y ∷ ys) d l some is here later x h = grind (arith, common_steps, tail_is y ys, here, later x, is, h)

-- one more literal of the clause
pub more_stands : (clause : List ℕ) (least greatest l next : ℕ) → next ≡ max greatest (variable_of l)
    → member l clause ≡ true → (greatest ≡ least) ⊎ StandsIn greatest clause
    → (next ≡ least) ⊎ StandsIn next clause
more_stands clause least greatest l next is here before = at (cases_lt greatest (variable_of l))
  where
    at : (greatest < variable_of l) ⊎ (variable_of l ≤ greatest) → (next ≡ least) ⊎ StandsIn next clause
    at (inl h) = inr (l, here, omega (arith, is, h))
    at (inr h) =
        let same : greatest ≡ next = omega (arith, is, h) in
        subst (λ (g : ℕ). (g ≡ least) ⊎ StandsIn g clause) same before
