-- Walks along functions, and the cycles among them.
use Rattle.std.proofs.Common.{◌≡◌, ◌≢◌, ℕ, zero, suc, ◌+◌, ◌<◌, ◌≤◌, Bool, true, false, ◌==◌, List, [], ◌∷◌, ◌++◌}
use Rattle.std.proofs.Common.{length, set, refl, sym, ap, ◌∙◌, subst, arith, ⊎_elim, ◌⊎◌, inl, inr}
use Rattle.std.specs.Prelude.{All, cond}
use Rattle.std.proofs.lemmas.List.{length-set, get_or-set_same, get_or-set_other}
use Rattle.std.proofs.lemmas.Bool.{cases_Bool, cond-true, cond-false, cases_eq, cases_lt, or_cases, or_from, false≢true}
use Rattle.std.proofs.lemmas.Bool.{eqb-true}
use Rattle.fol_sig.specs.Symbols.{Symbols, AreSorted}
use Rattle.fol_sig.specs.Strata.{has, AreInOrder, IsStrata, with_functions, IsWalk, IsOnCycle, IsFirstCycle}
use Rattle.fol_sig.specs.Strata.{OrderHasNoCycle, FirstCycleIsOne}
use Rattle.fol_sig.specs.Passes.{is_set, left_over}
use Rattle.fol_sig.proofs.Orders.{fewer}

-- what is so of each sort of a list is so of one that it has
pub All-has : (P : ℕ → Type 0) (ks : List ℕ) (q : ℕ) → All P ks → has ks q ≡ true → P q
All-has P [] q h e = absurd (false≢true e)
All-has P (k ∷ ks) q h e =
    ⊎_elim
    (λ is. subst P (eqb-true k q is) (h zero 0 (omega arith)))
    (λ later. All-has P ks q (λ i d lt. h (suc i) d (omega (arith, lt))) later)
    (or_cases (k == q) (has ks q) e)

-- the place of a sort in an order
rank : List ℕ → ℕ → ℕ
rank [] k = 0
rank (q ∷ qs) k = cond (q == k) 0 (suc (rank qs k))

rank-here : (q : ℕ) (qs : List ℕ) (k : ℕ) → q == k ≡ true → rank (q ∷ qs) k ≡ 0
unfolding rank
rank-here q qs k e = cond-true {A = ℕ} (q == k) 0 (suc (rank qs k)) e

rank-there : (q : ℕ) (qs : List ℕ) (k : ℕ) → q == k ≡ false → rank (q ∷ qs) k ≡ rank qs k + 1
unfolding rank
rank-there q qs k e = omega (arith, cond-false {A = ℕ} (q == k) 0 (suc (rank qs k)) e)

-- the argument sorts of a function stand before the sort of its values
goes_up : (sig : Symbols) (order done : List ℕ) (f k : ℕ) → AreInOrder sig done order → f < sig.functions
    → has order (sig.into_of f) ≡ true → has done (sig.into_of f) ≡ false → has (sig.from_of f) k ≡ true
    → (has done k ≡ true) ⊎ (rank order k < rank order (sig.into_of f))
goes_up sig [] done f k h lt there new takes = absurd (false≢true there)
goes_up sig (x ∷ xs) done f k h lt there new takes =
    let into = sig.into_of f in
    ⊎_elim
    (λ is. inl (All-has (λ q. has done q ≡ true) (sig.from_of f) k (h.1 f lt (sym (eqb-true x into is))) takes))
    (λ no.
    let here = rank-there x xs into no in
    let later : has xs into ≡ true =
    ⊎_elim (λ is. absurd (false≢true (sym no ∙ is))) (λ l. l) (or_cases (x == into) (has xs into) there) in
    ⊎_elim
    (λ is. inr (omega (arith, rank-here x xs k is, here)))
    (λ away.
    let below = rank-there x xs k away in
    ⊎_elim
    (λ old. ⊎_elim (λ is. absurd (false≢true (sym away ∙ is))) (λ o. inl o) (or_cases (x == k) (has done k) old))
    (λ less. inr (omega (arith, less, here, below)))
    (goes_up sig xs (x ∷ done) f k h.2 lt later (or_from (x == into) (has done into) no new) takes))
    (cases_Bool (x == k)))
    (cases_Bool (x == into))

step_up : (sig : Symbols) (order : List ℕ) (f k : ℕ) → AreSorted sig → IsStrata sig order → f < sig.functions
    → has (sig.from_of f) k ≡ true → rank order k < rank order (sig.into_of f)
step_up sig order f k sorted strata lt takes =
    ⊎_elim (λ e. absurd (false≢true e)) (λ up. up)
    (goes_up sig order [] f k strata.ordered lt (strata.whole (sig.into_of f) (sorted.into f lt)) refl takes)

walk_up : (sig : Symbols) (order : List ℕ) (k : ℕ) (fs : List ℕ) (q : ℕ) → AreSorted sig → IsStrata sig order
    → IsWalk sig k fs q → rank order k ≤ rank order q
walk_up sig order k [] q sorted strata e = omega (arith, ap (rank order) e)
walk_up sig order k (f ∷ fs) q sorted strata w =
    omega (arith, step_up sig order f k sorted strata w.0 w.1, walk_up sig order (sig.into_of f) fs q sorted strata w.2)

pub order_has_no_cycle : OrderHasNoCycle
order_has_no_cycle = λ sig order f sorted strata c.
    let up = step_up sig order f c.sort sorted strata c.closed.0 c.closed.1 in
    let back = walk_up sig order (sig.into_of f) c.rest c.sort sorted strata c.closed.2 in
    absurd (omega (arith, up, back))

-- two walks, one after the other
walk-append : (sig : Symbols) (k : ℕ) (fs : List ℕ) (m : ℕ) (gs : List ℕ) (q : ℕ) → IsWalk sig k fs m
    → IsWalk sig m gs q → IsWalk sig k (fs ++ gs) q
walk-append sig k [] m gs q e w = subst (λ z. IsWalk sig z gs q) (sym e) w
walk-append sig k (f ∷ fs) m gs q v w = (v.0, v.1, walk-append sig (sig.into_of f) fs m gs q v.2 w)

-- with more functions it is a walk still
walk-more : (sig : Symbols) (n m k : ℕ) (fs : List ℕ) (q : ℕ) → n ≤ m → IsWalk (with_functions sig n) k fs q
    → IsWalk (with_functions sig m) k fs q
walk-more sig n m k [] q le w = w
walk-more sig n m k (f ∷ fs) q le w = (omega (arith, w.0, le), w.1, walk-more sig n m (sig.into_of f) fs q le w.2)

-- a walk of the functions up to f, that f is on
record Through (sig : Symbols) (f k q : ℕ) : Type 0 where
  front : List ℕ
  sort : ℕ
  rest : List ℕ
  before : IsWalk (with_functions sig (f + 1)) k front sort
  after : IsWalk (with_functions sig (f + 1)) sort (f ∷ rest) q

through : (sig : Symbols) (f k : ℕ) (fs : List ℕ) (q : ℕ) → IsWalk (with_functions sig (f + 1)) k fs q
    → (IsWalk (with_functions sig f) k fs q) ⊎ (Through sig f k q)
through sig f k [] q w = inl w
through sig f k (g ∷ gs) q w =
    ⊎_elim
    (λ less.
    ⊎_elim
    (λ older. inl (less, w.1, older))
    (λ t. inr (record {
      front = g ∷ t.front;
      sort = t.sort;
      rest = t.rest;
      before = (w.0, w.1, t.before);
      after = t.after;
    }))
    (through sig f (sig.into_of g) gs q w.2))
    (λ no.
    let same : g ≡ f = omega (arith, w.0, no) in
    inr (record {
      front = [];
      sort = k;
      rest = gs;
      before = refl;
      after = subst (λ h. IsWalk (with_functions sig (f + 1)) k (h ∷ gs) q) same w;
    }))
    (cases_lt g f)

-- a cycle of the functions up to f, where those before f have none
pub first_cycle : (sig : Symbols) (f : ℕ) → f < sig.functions → ((g : ℕ) → IsOnCycle (with_functions sig f) g → ⊥)
    → (g : ℕ) → IsOnCycle (with_functions sig (f + 1)) g → IsFirstCycle sig f
first_cycle sig f known before g c = record {
  known = known;
  closes =
      ⊎_elim
      (λ older. absurd (before g (record { sort = c.sort; rest = c.rest; closed = older })))
      (λ t. record {
        sort = t.sort;
        rest = t.rest ++ t.front;
        closed = walk-append (with_functions sig (f + 1)) t.sort (f ∷ t.rest) c.sort t.front t.sort t.after t.before;
      })
      (through sig f c.sort (g ∷ c.rest) c.sort c.closed);
  before = before;
}

-- the functions have the cycle too
pub is_on_cycle : (sig : Symbols) (f : ℕ) → IsFirstCycle sig f → IsOnCycle sig f
is_on_cycle sig f h = record {
  sort = h.closes.sort;
  rest = h.closes.rest;
  closed = let known = h.known in
      walk-more sig (f + 1) sig.functions h.closes.sort (f ∷ h.closes.rest) h.closes.sort (omega (arith, known))
      h.closes.closed;
}

earlier : (sig : Symbols) (f g : ℕ) → IsFirstCycle sig f → IsFirstCycle sig g → f < g → ⊥
earlier sig f g hf hg lt =
    hg.before f
    (record {
      sort = hf.closes.sort;
      rest = hf.closes.rest;
      closed = walk-more sig (f + 1) g hf.closes.sort (f ∷ hf.closes.rest) hf.closes.sort (omega (arith, lt))
          hf.closes.closed;
    })

pub first_cycle_is_one : FirstCycleIsOne
first_cycle_is_one = λ sig f g hf hg.
    ⊎_elim
    (λ less. absurd (earlier sig f g hf hg less))
    (λ no. ⊎_elim (λ more. absurd (earlier sig g f hg hf more)) (λ never. omega (arith, no, never)) (cases_lt g f))
    (cases_lt f g)

-- some functions lead from one sort to another
pub record Leads (sig : Symbols) (k q : ℕ) : Type 0 where
  pub first : ℕ
  pub rest : List ℕ
  pub walk : IsWalk sig k (first ∷ rest) q

-- a sort that is not placed
abbrev pub IsLeft : List Bool → ℕ → Type 0
IsLeft placed k = (k < length placed) × (is_set placed k ≡ false)

-- into each sort that is left a walk leads from one that is left
abbrev pub AreStuck : Symbols → List Bool → Type 0
AreStuck sig placed = (k : ℕ) → IsLeft placed k → (q : ℕ) × IsLeft placed q × Leads sig q k

left-other : (placed : List Bool) (u k : ℕ) → IsLeft placed k → k ≢ u → IsLeft (set placed u true) k
left-other placed u k h away =
    (subst (λ n. k < n) (sym (length-set placed u true)) h.0, get_or-set_other placed u k true false away ∙ h.1)

left-old : (placed : List Bool) (u k : ℕ) → u < length placed → IsLeft (set placed u true) k → (k ≢ u) × IsLeft placed k
left-old placed u k lt h =
    let away : k ≢ u =
    λ e. false≢true (sym h.1 ∙ ap (is_set (set placed u true)) e ∙ get_or-set_same placed u true false lt) in
    (away, (subst (λ n. k < n) (length-set placed u true) h.0, sym (get_or-set_other placed u k true false away) ∙ h.1))

-- a walk round the sort u, past it
past : (sig : Symbols) (placed : List Bool) (u p : ℕ) → u < length placed → IsLeft (set placed u true) p → Leads sig p u
    → AreStuck sig placed → AreStuck sig (set placed u true)
past sig placed u p lt hp to_u stuck = λ k hk.
    let old = left-old placed u k lt hk in
    let q = stuck k old.1 in
    ⊎_elim
    (λ is.
    let on = subst (λ m. Leads sig m k) is q.2 in (
      p,
      hp,
      record {
        first = to_u.first;
        rest = to_u.rest ++ (on.first ∷ on.rest);
        walk = walk-append sig p (to_u.first ∷ to_u.rest) u (on.first ∷ on.rest) k to_u.walk on.walk;
      },
    ))
    (λ away. (q.0, left-other placed u q.0 q.1 away, q.2))
    (cases_eq q.0 u)

-- where each sort that is left has such a walk, there is a cycle
pub stuck_cycle : (sig : Symbols) (n : ℕ) (placed : List Bool) (u : ℕ) → left_over placed ≤ n → AreStuck sig placed
    → IsLeft placed u → (f : ℕ) × IsOnCycle sig f
stuck_cycle sig zero placed u few stuck h = absurd (omega (arith, few, fewer placed u h.0 h.1))
stuck_cycle sig (suc n) placed u few stuck h =
    let p = stuck u h in
    ⊎_elim
    (λ is.
    let round = subst (λ m. Leads sig m u) is p.2 in
    (round.first, record { sort = u; rest = round.rest; closed = round.walk }))
    (λ away.
    let next = left-other placed u p.0 p.1 away in
    stuck_cycle sig n (set placed u true) p.0 (omega (arith, few, fewer placed u h.0 h.1))
    (past sig placed u p.0 h.0 next p.2 stuck) next)
    (cases_eq p.0 u)

-- the first functions that have a cycle, and some of them that have none
pub record Between (sig : Symbols) (ordered cyclic : ℕ) : Type 0 where
  pub known : cyclic ≤ sig.functions
  pub apart : ordered < cyclic
  pub below : (f : ℕ) → IsOnCycle (with_functions sig ordered) f → ⊥
  pub above : (f : ℕ) × IsOnCycle (with_functions sig cyclic) f

pub raised : (sig : Symbols) (ordered cyclic middle : ℕ) → Between sig ordered cyclic → middle < cyclic
    → ((f : ℕ) → IsOnCycle (with_functions sig middle) f → ⊥) → Between sig middle cyclic
raised sig ordered cyclic middle h lt none = record { known = h.known; apart = lt; below = none; above = h.above }

pub lowered : (sig : Symbols) (ordered cyclic middle : ℕ) → Between sig ordered cyclic → ordered < middle
    → middle < cyclic → (f : ℕ) × IsOnCycle (with_functions sig middle) f → Between sig ordered middle
lowered sig ordered cyclic middle h low high some =
    record { known = omega (arith, h.known, high); apart = low; below = h.below; above = some }

pub found : (sig : Symbols) (ordered cyclic : ℕ) → Between sig ordered cyclic → cyclic ≤ ordered + 1
    → IsFirstCycle sig ordered
found sig ordered cyclic h near =
    let next : cyclic ≡ ordered + 1 = omega (arith, near, h.apart) in
    first_cycle sig ordered (omega (arith, h.apart, h.known)) h.below h.above.0
    (subst (λ n. IsOnCycle (with_functions sig n) h.above.0) next h.above.1)
