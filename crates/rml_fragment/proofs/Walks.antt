-- Whether a function closes a cycle with those before it is decided: the walks between two sorts are found by letting
-- one function more take part at a time.
use Rattle.std.proofs.Common.{
  ◌≡◌,
  ◌⊎◌,
  ℕ,
  zero,
  suc,
  ◌+◌,
  ◌<◌,
  ◌≤◌,
  Bool,
  true,
  false,
  ◌||◌,
  ◌==◌,
  List,
  [],
  ◌∷◌,
  refl,
  sym,
  ap,
  subst,
  inl,
  inr,
  add-one,
  arith,
}
use Rattle.std.proofs.lemmas.Bool.{cases_lt, cases_eq, or_cases, eqb-true, eq-eqb}
use Rattle.fol_sig.specs.Symbols.{Symbols}
use Rattle.fol_sig.specs.Strata.{has, IsWalk, IsOnCycle, IsFirstCycle, with_functions}
use Rattle.fol_sig.specs.Cycles.{CycleHasFirst}

abbrev pub Decided : Type 0 → Type 0
Decided P = P ⊎ (P → ⊥)

or_second : (x y : Bool) → y ≡ true → (x || y) ≡ true
or_second true y is = refl
or_second false y is = is

-- one of the list is so, or none is
among : (P : ℕ → Type 0) → ((k : ℕ) → Decided (P k)) → (ks : List ℕ)
    → ((k : ℕ) × (has ks k ≡ true) × P k) ⊎ ((k : ℕ) → has ks k ≡ true → P k → ⊥)
among P decided [] = inr (λ k in_list p. let e : false ≡ true = in_list in cc e)
among P decided (q ∷ qs) = at (decided q) (among P decided qs)
  where
    at : Decided (P q) → ((k : ℕ) × (has qs k ≡ true) × P k) ⊎ ((k : ℕ) → has qs k ≡ true → P k → ⊥)
        → ((k : ℕ) × (has (q ∷ qs) k ≡ true) × P k) ⊎ ((k : ℕ) → has (q ∷ qs) k ≡ true → P k → ⊥)
    at (inl p) others = inl (q, ap (λ (x : Bool). x || has qs q) (eq-eqb q q refl), p)
    at (inr never) (inl other) = inl (other.0, or_second (q == other.0) (has qs other.0) other.1, other.2)
    at (inr never) (inr others) = inr (λ k in_list p. elim (or_cases (q == k) (has qs k) in_list) [
      | inl same ↦ never (subst P (sym (eqb-true q k same)) p)
      | inr later ↦ others k later p
    ])

walk_more : (sig : Symbols) (n m k : ℕ) (fs : List ℕ) (q : ℕ) → n ≤ m
    → IsWalk (with_functions sig n) k fs q → IsWalk (with_functions sig m) k fs q
walk_more sig n m k [] q le w = w
walk_more sig n m k (f ∷ fs) q le w = (omega (arith, w.0), w.1, walk_more sig n m (sig.into_of f) fs q le w.2)

cycle_more : (sig : Symbols) (n m g : ℕ) → n ≤ m
    → IsOnCycle (with_functions sig n) g → IsOnCycle (with_functions sig m) g
cycle_more sig n m g le c = record {
  sort = c.sort;
  rest = c.rest;
  closed = walk_more sig n m c.sort (g ∷ c.rest) c.sort le c.closed;
}

module _ (sig : Symbols) where
  -- the first n functions lead from the one sort to the other
  abbrev Leads : ℕ → ℕ → ℕ → Type 0
  Leads n a b = (fs : List ℕ) × IsWalk (with_functions sig n) a fs b

  -- so do they by way of the function n
  abbrev LeadsThrough : ℕ → ℕ → ℕ → Type 0
  LeadsThrough n a b =
      (k : ℕ) × (has (sig.from_of n) k ≡ true) × Leads n a k × Leads n (sig.into_of n) b

  joined : (n a : ℕ) (fs : List ℕ) (k : ℕ) (gs : List ℕ) (b : ℕ)
      → IsWalk (with_functions sig n) a fs k → IsWalk (with_functions sig n) k gs b → Leads n a b
  joined n a [] k gs b v w = (gs, subst (λ (x : ℕ). IsWalk (with_functions sig n) x gs b) (sym v) w)
  joined n a (f ∷ fs) k gs b v w =
      let onward = joined n (sig.into_of f) fs k gs b v.2 w in
      (f ∷ onward.0, (v.0, v.1, onward.1))

  -- a walk takes the last function or it does not
  parted : (n a : ℕ) (fs : List ℕ) (b : ℕ) → IsWalk (with_functions sig (suc n)) a fs b → Leads n a b
      ⊎ LeadsThrough n a b
  parted n a [] b w = inl ([], w)
  parted n a (f ∷ fs) b w = at (cases_lt f n) (parted n (sig.into_of f) fs b w.2)
    where
      at : (f < n) ⊎ (n ≤ f) → Leads n (sig.into_of f) b ⊎ LeadsThrough n (sig.into_of f) b
          → Leads n a b ⊎ LeadsThrough n a b
      at (inl lt) (inl onward) = inl (f ∷ onward.0, (lt, w.1, onward.1))
      at (inl lt) (inr onward) = inr (onward.0, onward.1, (f ∷ onward.2.0, (lt, w.1, onward.2.1)), onward.3)
      at (inr le) (inl onward) =
          let e : f ≡ n = omega (arith, w.0) in
          inr (
            a,
            subst (λ (g : ℕ). has (sig.from_of g) a ≡ true) e w.1,
            ([], refl),
            subst
                (λ (g : ℕ). Leads n (sig.into_of g) b) e onward,
          )
      at (inr le) (inr onward) =
          let e : f ≡ n = omega (arith, w.0) in
          inr (a, subst (λ (g : ℕ). has (sig.from_of g) a ≡ true) e w.1, ([], refl), onward.3)

  leads : (n a b : ℕ) → Decided (Leads n a b)
  leads zero a b = elim (cases_eq a b) [ inl same ↦ inl ([], same) | inr other ↦ inr (λ w. nowhere w.0 w.1 other) ]
    where
      nowhere : (fs : List ℕ) → IsWalk (with_functions sig zero) a fs b → (a ≡ b → ⊥) → ⊥
      nowhere [] w other = other w
      nowhere (f ∷ fs) w other = omega (arith, w.0)
  leads (suc n) a b = at (leads n a b) (among (λ k. Leads n a k) (leads n a) (sig.from_of n))
      (leads n (sig.into_of n) b)
    where
      longer : (x y : ℕ) → Leads n x y → Leads (suc n) x y
      longer x y w = (w.0, walk_more sig n (suc n) x w.0 y (omega arith) w.1)

      at : Decided (Leads n a b)
          → ((k : ℕ) × (has (sig.from_of n) k ≡ true) × Leads n a k)
          ⊎ ((k : ℕ) → has (sig.from_of n) k ≡ true → Leads n a k → ⊥)
          → Decided (Leads n (sig.into_of n) b) → Decided (Leads (suc n) a b)
      at (inl w) before behind = inl (longer a b w)
      at (inr never) (inl before) (inl behind) =
          let first = longer a before.0 before.2 in
          let second = longer (sig.into_of n) b behind in
          inl (joined (suc n) a first.0 before.0 (n ∷ second.0) b first.1 (omega arith, before.1, second.1))
      at (inr never) (inl before) (inr none) =
          inr (λ w. elim (parted n a w.0 b w.1) [ inl whole ↦ never whole | inr through ↦ none through.3 ])
      at (inr never) (inr none) behind =
          inr (λ w. elim (parted n a w.0 b w.1) [
            | inl whole ↦ never whole
            | inr through ↦ none through.0 through.1 through.2
          ])

  on_cycle : (n f : ℕ) → Decided (IsOnCycle (with_functions sig n) f)
  on_cycle n f = at (cases_lt f n) (among (λ k. Leads n (sig.into_of f) k) (leads n (sig.into_of f)) (sig.from_of f))
    where
      at : (f < n) ⊎ (n ≤ f)
          → ((k : ℕ) × (has (sig.from_of f) k ≡ true) × Leads n (sig.into_of f) k)
          ⊎ ((k : ℕ) → has (sig.from_of f) k ≡ true → Leads n (sig.into_of f) k → ⊥)
          → Decided (IsOnCycle (with_functions sig n) f)
      at (inl lt) (inl back) = inl (record { sort = back.0; rest = back.2.0; closed = (lt, back.1, back.2.1) })
      at (inl lt) (inr none) = inr (λ c. none c.sort c.closed.1 (c.rest, c.closed.2))
      at (inr le) back = inr (λ c. omega (arith, c.closed.0))

  -- one of the first n functions is the first that closes a cycle
  record ClosesFirst (n : ℕ) : Type 0 where
    function : ℕ
    known : function < n
    closes : IsOnCycle (with_functions sig (function + 1)) function
    before : (g : ℕ) → IsOnCycle (with_functions sig function) g → ⊥

  first_of : CycleHasFirst → (n : ℕ) → ClosesFirst n ⊎ ((g : ℕ) → IsOnCycle (with_functions sig n) g → ⊥)
  first_of has_first zero = inr (λ g c. omega (arith, c.closed.0))
  first_of has_first (suc n) = at (first_of has_first n) (on_cycle (suc n) n)
    where
      at : ClosesFirst n ⊎ ((g : ℕ) → IsOnCycle (with_functions sig n) g → ⊥)
          → Decided (IsOnCycle (with_functions sig (suc n)) n)
          → ClosesFirst (suc n) ⊎ ((g : ℕ) → IsOnCycle (with_functions sig (suc n)) g → ⊥)
      at (inl c) closes =
          inl (record { function = c.function; known = omega (arith, c.known); closes = c.closes; before = c.before })
      at (inr none) (inl closes) = inl (record {
        function = n;
        known = omega arith;
        closes = subst (λ (m : ℕ). IsOnCycle (with_functions sig m) n) (sym (add-one n)) closes;
        before = none;
      })
      at (inr none) (inr never) = inr (has_first (with_functions sig (suc n)) (λ f is. elim (cases_lt f n) [
        | inl lt ↦ none f (cycle_more sig (f + 1) n f (omega arith) is.closes)
        | inr le ↦
            let e : f ≡ n = omega (arith, is.known) in
            let closed = cycle_more sig (f + 1) (suc n) f (omega arith) is.closes in
            never (subst (λ (g : ℕ). IsOnCycle (with_functions sig (suc n)) g) e closed)
      ]))

  pub first_cycle : CycleHasFirst → ((f : ℕ) × IsFirstCycle sig f) ⊎ ((f : ℕ) → IsOnCycle sig f → ⊥)
  first_cycle has_first = elim (first_of has_first sig.functions) [
    | inl c ↦ inl (c.function, record { known = c.known; closes = c.closes; before = c.before })
    | inr none ↦ inr none
  ]
