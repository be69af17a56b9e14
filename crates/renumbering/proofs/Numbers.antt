-- Literals and their numbers, and lists of rising numbers.
use Rattle.std.proofs.Common.{◌≡◌, ℕ, zero, suc, ◌+◌, ◌<◌, ◌≤◌, Bool, true, false, not, List, [], ◌∷◌}
use Rattle.std.proofs.Common.{length, get_or, refl, arith, ap}
use Rattle.std.proofs.lemmas.Grind.{common_steps}
use Rattle.cnf_base.specs.Literals.{opposite, variable_of, is_positive, literal_of}
use Rattle.cnf_base.specs.Rising.{AreRising}

pub variable_of-literal_of : (p : Bool) (v : ℕ) → variable_of (literal_of p v) ≡ v
variable_of-literal_of true v = omega arith
variable_of-literal_of false v = omega arith

pub is_positive-literal_of : (p : Bool) (v : ℕ) → is_positive (literal_of p v) ≡ p
is_positive-literal_of true v = grind (arith, common_steps)
is_positive-literal_of false v = grind (arith, common_steps)

pub literal_of-variable_of : (l : ℕ) → literal_of (is_positive l) (variable_of l) ≡ l
literal_of-variable_of l = grind (arith, common_steps)

pub variable_of-opposite : (l : ℕ) → variable_of (opposite l) ≡ variable_of l
unfolding opposite
variable_of-opposite l = grind (arith, common_steps)

pub is_positive-opposite : (l : ℕ) → is_positive (opposite l) ≡ not (is_positive l)
unfolding opposite
is_positive-opposite l = grind (arith, common_steps)

pub opposite-literal_of : (p : Bool) (v : ℕ) → opposite (literal_of p v) ≡ literal_of (not p) v
unfolding opposite
opposite-literal_of true v = grind (arith, common_steps)
opposite-literal_of false v = grind (arith, common_steps)

-- each of rising numbers is above the last before them, and at most the most
pub rising_at : (most last : ℕ) (vs : List ℕ) (i : ℕ) → AreRising most last vs → i < length vs → (last < get_or vs i 0)
    × (get_or vs i 0 ≤ most)
rising_at most last [] i r h = absurd (omega arith)
rising_at most last (v ∷ vs) zero r h = (r.0, r.1)
rising_at most last (v ∷ vs) (suc i) r h = let t = rising_at most v vs i r.2
    (omega arith) in let a = r.0 in let b = t.0 in (omega arith, t.1)

-- they stand in order
pub rising_order : (most last : ℕ) (vs : List ℕ) (i j : ℕ) → AreRising most last vs → i < j → j < length vs
    → get_or vs i 0 < get_or vs j 0
rising_order most last [] i j r h k = absurd (omega arith)
rising_order most last (v ∷ vs) i zero r h k = absurd (omega arith)
rising_order most last (v ∷ vs) zero (suc j) r h k = (rising_at most v vs j r.2 (omega arith)).0
rising_order most last (v ∷ vs) (suc i) (suc j) r h k = rising_order most v vs i j r.2 (omega arith) (omega arith)

-- no number stands twice
pub rising_once : (most last : ℕ) (vs : List ℕ) (i j : ℕ) → AreRising most last vs → i < length vs → j < length vs
    → get_or vs i 0 ≡ get_or vs j 0 → i ≡ j
rising_once most last [] i j r h k e = absurd (omega arith)
rising_once most last (v ∷ vs) zero zero r h k e = refl
rising_once most last (v ∷ vs) zero (suc j) r h k e = let t = rising_at most v vs j r.2
    (omega arith) in let a = t.0 in absurd (omega arith)
rising_once most last (v ∷ vs) (suc i) zero r h k e = let t = rising_at most v vs i r.2
    (omega arith) in let a = t.0 in absurd (omega arith)
rising_once most last (v ∷ vs) (suc i) (suc j) r h k e = ap suc
    (rising_once most v vs i j r.2 (omega arith) (omega arith) e)

pub rising_few : (most last : ℕ) (vs : List ℕ) → last ≤ most → AreRising most last vs → length vs + last ≤ most
rising_few most last [] h r = omega arith
rising_few most last (v ∷ vs) h r = let a = r.0 in let b = rising_few most v vs r.1 r.2 in omega arith
