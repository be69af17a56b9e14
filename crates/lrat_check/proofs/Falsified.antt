-- The set that makes a clause false, filled from its last literal on.
use Rattle.std.proofs.Common.{◌≡◌, ℕ, zero, suc, ◌+◌, ◌<◌, ◌||◌, Bool, true, false, List, [], ◌∷◌, length, get_or}
use Rattle.std.proofs.Common.{drop, arith, ap}
use Rattle.std.proofs.lemmas.Grind.{common_steps}
use Rattle.std.proofs.lemmas.List.{drop_more}
use Rattle.cnf_base.specs.Literals.{opposite, member}
use Rattle.cnf_base.specs.Clauses.{has_opposites}
use Rattle.lrat_log.specs.Accepted.{also, all_false}

pub has_opposites_step : (ls : List ℕ) (i : ℕ) → i < length ls
    → has_opposites (drop i ls) ≡ (member (opposite (get_or ls i 0)) (drop (i + 1) ls) || has_opposites
    (drop (i + 1) ls))
has_opposites_step ls i h = ap has_opposites (drop_more ls i 0 h)

pub has_opposites-from_drop : (i : ℕ) (ls : List ℕ) → has_opposites (drop i ls) ≡ true → has_opposites ls ≡ true
has_opposites-from_drop zero ls h = h
has_opposites-from_drop (suc i) [] h = h
has_opposites-from_drop (suc i) (l ∷ ls) h =
    let ih = has_opposites-from_drop i ls h in
    grind (arith, common_steps, ih)

pub none_false : (held : ℕ → Bool) (ls : List ℕ) (n : ℕ) → n ≡ length ls → ((x : ℕ) → held x ≡ false) → (x : ℕ)
    → held x ≡ all_false (drop n ls) x
none_false held ls n e h x = let hx = h x in grind (arith, common_steps, e, hx)

pub mark_found : (held : ℕ → Bool) (ls : List ℕ) (i j : ℕ) → i ≡ j + 1 → j < length ls
    → ((x : ℕ) → held x ≡ all_false (drop i ls) x)
    → held (get_or ls j 0) ≡ true → has_opposites ls ≡ true
mark_found held ls i j e h m t =
    let mx : held (get_or ls j 0) ≡ all_false (drop (j + 1) ls) (get_or ls j 0) = rw e at (m (get_or ls j 0)) in
    let st = has_opposites_step ls j h in
    has_opposites-from_drop j ls (grind (arith, common_steps, mx, t, st))

pub mark_clear : (held : ℕ → Bool) (ls : List ℕ) (i j : ℕ) → i ≡ j + 1 → j < length ls
    → ((x : ℕ) → held x ≡ all_false (drop i ls) x)
    → has_opposites (drop i ls) ≡ false → held (get_or ls j 0) ≡ false → has_opposites (drop j ls) ≡ false
mark_clear held ls i j e h m n t =
    let mx : held (get_or ls j 0) ≡ all_false (drop (j + 1) ls) (get_or ls j 0) = rw e at (m (get_or ls j 0)) in
    let n2 : has_opposites (drop (j + 1) ls) ≡ false = rw e at n in
    let st = has_opposites_step ls j h in
    grind (arith, common_steps, mx, t, st, n2)

-- one more literal from the end is false
pub mark_more : ((l : ℕ) → opposite (opposite l) ≡ l) → (held more : ℕ → Bool) (ls : List ℕ) (i j o : ℕ) → i ≡ j + 1
    → j < length ls → o ≡ opposite (get_or ls j 0)
    → ((x : ℕ) → held x ≡ all_false (drop i ls) x) → ((x : ℕ) → more x ≡ also held o x) → (x : ℕ)
    → more x ≡ all_false (drop j ls) x
mark_more twice held more ls i j o e h q m a x =
    let ax : more x ≡ also held (opposite (get_or ls j 0)) x = rw q at (a x) in
    let mx : held x ≡ all_false (drop (j + 1) ls) x = rw e at (m x) in
    let b = ap (λ (zs : List ℕ). member (opposite x) zs) (drop_more ls j 0 h) in
    let p = twice x in
    let r = twice (get_or ls j 0) in
    grind (arith, common_steps, ax, mx, b, p, r)
