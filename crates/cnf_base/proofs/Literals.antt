-- Laws of opposite literals and of membership.
use Rattle.std.proofs.Common.{◌≡◌, ℕ, ◌*◌, ◌<◌, ◌||◌, eqb, Bool, true, false, not, List, [], ◌∷◌, ◌++◌, refl, arith}
use Rattle.std.proofs.Common.{ap, sym, ◌∙◌}
use Rattle.std.proofs.lemmas.Bool.{eqb-true, eq-eqb}
use Rattle.std.proofs.lemmas.Grind.{common_steps}
use Rattle.cnf_base.specs.Literals.{opposite, is_true, member, variable_of, is_positive, literal_of}

pub opposite-opposite : (l : ℕ) → opposite (opposite l) ≡ l
unfolding opposite
opposite-opposite l = grind (arith, common_steps)

pub opposite-differs : (l : ℕ) → opposite l ≡ l → ⊥
unfolding opposite
opposite-differs l h = grind (arith, common_steps)

pub opposite-below : (n l : ℕ) → l < 2 * n → opposite l < 2 * n
unfolding opposite
opposite-below n l h = grind (arith, common_steps)

pub variable_of-opposite : (l : ℕ) → variable_of (opposite l) ≡ variable_of l
unfolding opposite
variable_of-opposite l = grind (arith, common_steps)

pub is_true-opposite : (v : ℕ → Bool) (l : ℕ) → is_true v (opposite l) ≡ not (is_true v l)
unfolding opposite is_true
is_true-opposite v l = grind (arith, common_steps)

both_ways : (a b : Bool) → (a ≡ true → b ≡ true) → (b ≡ true → a ≡ true) → a ≡ b
both_ways true b f g = sym (f refl)
both_ways false true f g = g refl
both_ways false false f g = refl

pub eqb_sym : (m n : ℕ) → eqb m n ≡ eqb n m
eqb_sym m n = both_ways _ _ (λ h. eq-eqb n m (sym (eqb-true m n h))) (λ h. eq-eqb m n (sym (eqb-true n m h)))

turned : (l m : ℕ) → eqb (opposite l) m ≡ true → eqb (opposite m) l ≡ true
turned l m h = eq-eqb (opposite m) l (ap opposite (sym (eqb-true (opposite l) m h)) ∙ opposite-opposite l)

pub eqb-opposite : (l m : ℕ) → eqb (opposite l) m ≡ eqb (opposite m) l
eqb-opposite l m = both_ways _ _ (turned l m) (turned m l)

or_nothing : (a : Bool) → (a || false) ≡ a
or_nothing true = refl
or_nothing false = refl

or_assoc : (a b c : Bool) → ((a || b) || c) ≡ (a || (b || c))
or_assoc true b c = refl
or_assoc false b c = refl

pub member-append : (x : ℕ) (xs ys : List ℕ) → member x (xs ++ ys) ≡ (member x xs || member x ys)
member-append x [] ys = refl
member-append x (y ∷ xs) ys = ap (λ b. eqb x y || b) (member-append x xs ys)
    ∙ sym (or_assoc (eqb x y) (member x xs) (member x ys))

pub member-push : (x : ℕ) (xs : List ℕ) (y : ℕ) → member x (xs ++ y ∷ []) ≡ (member x xs || eqb x y)
member-push x xs y = member-append x xs (y ∷ []) ∙ ap (λ b. member x xs || b) (or_nothing (eqb x y))

pub variable_of-literal_of : (s : Bool) (n : ℕ) → variable_of (literal_of s n) ≡ n
variable_of-literal_of true n = omega arith
variable_of-literal_of false n = omega arith

pub literal_of-variable_of : (l : ℕ) → literal_of (is_positive l) (variable_of l) ≡ l
literal_of-variable_of l = grind (arith, common_steps)
