-- Where each sort of a list is reached from a sort of the list, some function stands on a cycle.
use Rattle.std.proofs.Common.{◌≡◌, ℕ, true, ◌==◌, List, [], ◌∷◌, ◌++◌, refl, sym, subst, ⊎_elim}
use Rattle.std.proofs.lemmas.Bool.{false≢true, eqb-true, eq-eqb, or_cases, or_left, or_right}
use Rattle.fol_sig.specs.Symbols.{Symbols}
use Rattle.fol_sig.specs.Strata.{has, IsWalk, IsOnCycle}

pub has-first : (k : ℕ) (ks : List ℕ) → has (k ∷ ks) k ≡ true
has-first k ks = or_left (k == k) (has ks k) (eq-eqb k k refl)

-- a walk of one function or more leads to the sort, from a sort of the list
pub record IsReached (sig : Symbols) (ks : List ℕ) (k : ℕ) : Type 0 where
  pub from : ℕ
  pub stands : has ks from ≡ true
  pub first : ℕ
  pub rest : List ℕ
  pub walk : IsWalk sig from (first ∷ rest) k

abbrev pub AreReached : Symbols → List ℕ → Type 0
AreReached sig ks = (k : ℕ) → has ks k ≡ true → IsReached sig ks k

module _ (sig : Symbols) where
  -- two walks, one after the other
  walk-append : (k : ℕ) (fs : List ℕ) (m : ℕ) (gs : List ℕ) (q : ℕ)
      → IsWalk sig k fs m → IsWalk sig m gs q → IsWalk sig k (fs ++ gs) q
  walk-append k [] m gs q e w = subst (λ z. IsWalk sig z gs q) (sym e) w
  walk-append k (f ∷ fs) m gs q v w = (v.0, v.1, walk-append (sig.into_of f) fs m gs q v.2 w)

  -- the first sort of the list is reached from another, and so what was reached from it is reached from that one
  shorter : (k : ℕ) (ks : List ℕ) (r : IsReached sig (k ∷ ks) k)
      → has ks r.from ≡ true → AreReached sig (k ∷ ks) → AreReached sig ks
  shorter k ks r others all q there =
      let s = all q (or_right (k == q) (has ks q) there) in
      ⊎_elim
      (λ is. record {
        from = r.from;
        stands = others;
        first = r.first;
        rest = r.rest ++ s.first ∷ s.rest;
        walk =
            let behind = subst (λ z. IsWalk sig z (s.first ∷ s.rest) q) (sym (eqb-true k s.from is)) s.walk in
            walk-append r.from (r.first ∷ r.rest) k (s.first ∷ s.rest) q r.walk behind;
      })
      (λ stays. record { from = s.from; stands = stays; first = s.first; rest = s.rest; walk = s.walk })
      (or_cases (k == s.from) (has ks s.from) s.stands)

  pub on_cycle : (ks : List ℕ) (k : ℕ) → has ks k ≡ true → AreReached sig ks → (f : ℕ) × IsOnCycle sig f
  on_cycle [] k there all = absurd (false≢true there)
  on_cycle (q ∷ qs) k there all =
      let r = all q (has-first q qs) in
      ⊎_elim
      (λ is.
      let closed = subst (λ z. IsWalk sig z (r.first ∷ r.rest) q) (sym (eqb-true q r.from is)) r.walk in
      (r.first, record { sort = q; rest = r.rest; closed = closed }))
      (λ others. on_cycle qs r.from others (shorter q qs r others all))
      (or_cases (q == r.from) (has qs r.from) r.stands)
