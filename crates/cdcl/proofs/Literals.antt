-- Laws of opposite literals and of membership.
use Rattle.std.proofs.Common.{◌≡◌, ℕ, ◌+◌, ◌*◌, ◌<◌, ◌||◌, List, [], ◌∷◌, ◌++◌, refl, arith}
use Rattle.std.proofs.lemmas.Grind.{common_steps}
use Rattle.cnf_base.specs.Literals.{opposite, member}

pub opposite-even : (k : ℕ) → opposite (2 * k) ≡ 2 * k + 1
unfolding opposite
opposite-even k = grind (arith, common_steps)

pub opposite-odd : (k : ℕ) → opposite (2 * k + 1) ≡ 2 * k
unfolding opposite
opposite-odd k = grind (arith, common_steps)

pub opposite-opposite : (l : ℕ) → opposite (opposite l) ≡ l
unfolding opposite
opposite-opposite l = grind (arith, common_steps)

pub opposite-differs : (l : ℕ) → opposite l ≡ l → ⊥
unfolding opposite
opposite-differs l h = grind (arith, common_steps)

pub opposite-below : (n l : ℕ) → l < 2 * n → opposite l < 2 * n
unfolding opposite
opposite-below n l h = grind (arith, common_steps)

pub member-append : (x : ℕ) (xs ys : List ℕ) → member x (xs ++ ys) ≡ (member x xs || member x ys)
member-append x [] ys = refl
member-append x (y ∷ xs) ys = grind (arith, common_steps, member-append x xs ys)
