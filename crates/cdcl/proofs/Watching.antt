-- What watching two literals shows.
use Rattle.std.proofs.Common.{◌≡◌, ℕ, zero, suc, ◌+◌, ◌≤◌, ◌⊎◌, Bool, true, false, List, length, refl, arith, ap, sym}
use Rattle.std.proofs.Common.{◌∙◌, inl, inr, None}
use Rattle.cnf_base.specs.Literals.{opposite, member}
use Rattle.lrat_log.specs.Held.{Held}
use Rattle.lrat_log.specs.Learnt.{IsFalse, IsUnit, IsConsistent, IsQuiet, IsNew}
use Rattle.cdcl.specs.declared.trail.Step.{Step}
use Rattle.cdcl_tables.specs.declared.watches.Pair.{Pair}
use Rattle.cdcl.specs.Trail.{IsBelow, IsFrom, IsTrail, was_set, HasTrue}
use Rattle.cdcl.specs.Watch.{IsPairOf, IsWatchedBy, IsSafe, AreSafe, Pairs}
use Rattle.cdcl.proofs.Literals.{opposite-opposite}
use Rattle.cdcl.proofs.Trails.{trail_consistent, was_set_below, below_was_set}

-- a clause with a true literal is neither false nor unit
true_quiet : (set : ℕ → Bool) (c : List ℕ) → IsConsistent set → HasTrue set c
    → (IsFalse set c → ⊥) × ((l : ℕ) → IsUnit set c l → ⊥)
true_quiet set c k w = (
  (λ f. let a = f w.0 w.1 in let b = k w.0 w.2 in absurd (cc)),
  (λ l u. at l u (u.others_false w.0 w.1)),
)
  where
    at : (l : ℕ) → IsUnit set c l → (w.0 ≡ l) ⊎ (set (opposite w.0) ≡ true) → ⊥
    at l u (inl e) = let n : set w.0 ≡ false = ap set e ∙ u.not_true in let t = w.2 in absurd (cc)
    at l u (inr e) = let b = k w.0 w.2 in absurd (cc)

-- a watched clause is neither false nor unit
watched_quiet : (set : ℕ → Bool) (c : List ℕ) (p : Pair) → IsConsistent set → IsWatchedBy set set c p
    → (IsFalse set c → ⊥) × ((l : ℕ) → IsUnit set c l → ⊥)
watched_quiet set c p k w = (
  (λ f. (true_quiet set c k (w.first_false (f p.first w.pair.first_stands))).0 f),
  (λ l u. at l u (u.others_false p.first w.pair.first_stands) (u.others_false p.second w.pair.second_stands)),
)
  where
    at : (l : ℕ) → IsUnit set c l → (p.first ≡ l) ⊎ (set (opposite p.first) ≡ true)
        → (p.second ≡ l) ⊎ (set (opposite p.second) ≡ true) → ⊥
    at l u (inl e) (inl f) = w.pair.different (e ∙ sym f)
    at l u (inr e) f = (true_quiet set c k (w.first_false e)).1 l u
    at l u (inl e) (inr f) = (true_quiet set c k (w.second_false f)).1 l u

safe_quiet : (set : ℕ → Bool) (c : List ℕ) (p : Pair) → IsConsistent set → IsSafe set set c p
    → (IsFalse set c → ⊥) × ((l : ℕ) → IsUnit set c l → ⊥)
safe_quiet set c p k (inl w) = watched_quiet set c p k w
safe_quiet set c p k (inr w) = true_quiet set c k w

-- where all clauses are safe, none is false or unit
pub all_quiet : (held : Held) (trail : List Step) (s : ℕ) (pairs : Pairs) → IsTrail held trail → held 0 ≡ None
    → s ≤ length trail
    → AreSafe held (was_set trail s) (was_set trail s) pairs → IsQuiet held (was_set trail s)
all_quiet held trail s pairs t z h a zero c e = absurd (let q = z in cc)
all_quiet held trail s pairs t z h a (suc k) c e =
    safe_quiet (was_set trail s) c (pairs k) (trail_consistent held trail s t h)
    (a k c (ap held (let q : k + 1 ≡ suc k = omega arith in q) ∙ e))

-- a clause whose literals but one are false below the top level is new
pub learnt_is_new : (held : Held) (trail : List Step) (top u : ℕ) (ls : List ℕ) → IsTrail held trail
    → top ≤ length trail
    → IsQuiet held (was_set trail top) → member u ls ≡ true → IsFrom trail top (opposite u)
    → ((x : ℕ) → member x ls ≡ true → (x ≡ u) ⊎ IsBelow trail top (opposite x)) → IsNew held ls
learnt_is_new held trail top u ls t h q m f o = (
  was_set trail top,
  trail_consistent held trail top t h,
  (
    u,
    record {
      stands = m;
      not_true = no u
          (λ b. t.apart b.0 f.0 (let x = b.1 in let y = f.1 in omega arith) f.2 (ap opposite b.2 ∙ sym f.3));
      not_false = no (opposite u) (λ b. t.once b.0 f.0 (let x = b.1 in let y = f.1 in omega arith) f.2 (b.2 ∙ sym f.3));
      others_false = λ x s. at x (o x s);
    },
  ),
  q,
)
  where
    no : (l : ℕ) → (IsBelow trail top l → ⊥) → was_set trail top l ≡ false
    no l n = cases (was_set trail top l) refl
      where
        cases : (b : Bool) → was_set trail top l ≡ b → b ≡ false
        cases false e = refl
        cases true e = absurd (n (was_set_below trail top l e))

    at : (x : ℕ) → (x ≡ u) ⊎ IsBelow trail top (opposite x) → (x ≡ u) ⊎ (was_set trail top (opposite x) ≡ true)
    at x (inl e) = inl e
    at x (inr b) = inr (below_was_set trail top (opposite x) b)

-- a pair of which one literal is changed
abbrev pub Which : Pair → ℕ → Type 0
Which w other = (other ≡ w.first) ⊎ (other ≡ w.second)

abbrev pub pair_of : ℕ → ℕ → Pair
pair_of l other = record { first = l; second = other }

-- the front goes past p; front' is the front with p
module _ (front front' set : ℕ → Bool) (p : ℕ) (more : (l : ℕ) → front' l ≡ true → (p ≡ l) ⊎ (front l ≡ true)) where
  -- a clause that does not watch the opposite of p
  pub safe_elsewhere : (c : List ℕ) (w : Pair)
      → (IsPairOf c w → (w.first ≡ opposite p → ⊥) × (w.second ≡ opposite p → ⊥))
      → IsSafe front set c w → IsSafe front' set c w
  safe_elsewhere c w n (inr t) = inr t
  safe_elsewhere c w n (inl b) = inl (record {
    pair = b.pair;
    first_false = λ h. one w.first (n b.pair).0 b.first_false (more (opposite w.first) h);
    second_false = λ h. one w.second (n b.pair).1 b.second_false (more (opposite w.second) h);
  })
    where
      one : {G : Type 0} (x : ℕ) → (x ≡ opposite p → ⊥) → (front (opposite x) ≡ true → G)
          → (p ≡ opposite x) ⊎ (front (opposite x) ≡ true) → G
      one x n g (inl e) = absurd (n (sym (opposite-opposite x) ∙ ap opposite (sym e)))
      one x n g (inr h) = g h

  -- another literal is watched in place of the opposite of p
  pub safe_moves : (c : List ℕ) (w : Pair) (l other : ℕ) → IsPairOf c (pair_of l other) → Which w other
      → set (opposite l) ≡ false
      → (other ≡ opposite p → ⊥) → ((x : ℕ) → front' x ≡ true → set x ≡ true)
      → IsSafe front set c w → IsSafe front' set c (pair_of l other)
  safe_moves c w l other i o u n inside (inr t) = inr t
  safe_moves c w l other i o u n inside (inl b) = inl (record {
    pair = i;
    first_false = λ h. (let s = inside (opposite l) h in absurd (cc));
    second_false = λ h. at (more (opposite other) h) o;
  })
    where
      at : (p ≡ opposite other) ⊎ (front (opposite other) ≡ true) → Which w other → HasTrue set c
      at (inl e) q = absurd (n (sym (opposite-opposite other) ∙ ap opposite (sym e)))
      at (inr h) (inl q) = b.first_false (ap (λ (x : ℕ). front (opposite x)) (sym q) ∙ h)
      at (inr h) (inr q) = b.second_false (ap (λ (x : ℕ). front (opposite x)) (sym q) ∙ h)

-- the same where the front stays
pub safe_moves_before : (front set : ℕ → Bool) (c : List ℕ) (w : Pair) (l other : ℕ) → IsPairOf c (pair_of l other)
    → Which w other → front (opposite l) ≡ false
    → IsSafe front set c w → IsSafe front set c (pair_of l other)
safe_moves_before front set c w l other i o u (inr t) = inr t
safe_moves_before front set c w l other i o u (inl b) = inl (record {
  pair = i;
  first_false = λ h. absurd (cc);
  second_false = λ h. at o h;
})
  where
    at : Which w other → front (opposite other) ≡ true → HasTrue set c
    at (inl q) h = b.first_false (ap (λ (x : ℕ). front (opposite x)) (sym q) ∙ h)
    at (inr q) h = b.second_false (ap (λ (x : ℕ). front (opposite x)) (sym q) ∙ h)

-- a smaller front, and more literals that are set
pub safe_more : (front front' set set' : ℕ → Bool) (c : List ℕ) (w : Pair)
    → ((l : ℕ) → front' l ≡ true → front l ≡ true)
    → ((l : ℕ) → set l ≡ true → set' l ≡ true) → IsSafe front set c w → IsSafe front' set' c w
safe_more front front' set set' c w a b (inr t) = inr (t.0, t.1, b t.0 t.2)
safe_more front front' set set' c w a b (inl v) = inl (record {
  pair = v.pair;
  first_false = λ h. (let t = v.first_false (a (opposite w.first) h) in (t.0, t.1, b t.0 t.2));
  second_false = λ h. (let t = v.second_false (a (opposite w.second) h) in (t.0, t.1, b t.0 t.2));
})

-- a clause of which two literals are not false
pub safe_open : (front set : ℕ → Bool) (c : List ℕ) (a b : ℕ) → IsPairOf c (pair_of a b) → front (opposite a) ≡ false
    → front (opposite b) ≡ false
    → IsSafe front set c (pair_of a b)
safe_open front set c a b i fa fb = inl (record {
  pair = i;
  first_false = λ h. absurd (cc);
  second_false = λ h. absurd (cc);
})

-- where every literal is true or false, a safe clause has a true literal
pub safe_satisfied : (set : ℕ → Bool) (c : List ℕ) (w : Pair)
    → ((l : ℕ) → member l c ≡ true → (set l ≡ true) ⊎ (set (opposite l) ≡ true))
    → IsSafe set set c w → HasTrue set c
safe_satisfied set c w full (inr t) = t
safe_satisfied set c w full (inl v) = at (full w.first v.pair.first_stands)
  where
    at : (set w.first ≡ true) ⊎ (set (opposite w.first) ≡ true) → HasTrue set c
    at (inl t) = (w.first, v.pair.first_stands, t)
    at (inr f) = v.first_false f
