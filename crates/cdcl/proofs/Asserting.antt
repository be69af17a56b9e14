-- A search with one more clause.
use Rattle.std.proofs.Common.{◌≡◌, ℕ, zero, suc, ◌+◌, ◌^◌, ◌-◌, ◌<◌, ◌≤◌, ◌⊎◌, Bool, true, false, List, [], ◌∷◌, ◌++◌}
use Rattle.std.proofs.Common.{length, length-append, get_or, take, refl, arith, ap, sym, subst, ◌∙◌, inl, inr, Some}
use Rattle.std.proofs.lemmas.Grind.{common_steps}
use Rattle.std.proofs.lemmas.Bool.{cases_lt}
use Rattle.std.specs.List.{All}
use Rattle.cnf_base.specs.declared.cnf.Entry.{Entry}
use Rattle.cnf_base.specs.declared.cnf.Entry.TheVariants.{Clause}
use Rattle.cnf_base.specs.Literals.{opposite, member}
use Rattle.lrat_log.specs.Held.{Held, held_by}
use Rattle.lrat_log.specs.Learnt.{IsUnit, IsResolvent}
use Rattle.cdcl.specs.declared.trail.Step.{Step}
use Rattle.cdcl_tables.specs.declared.watches.Pair.{Pair}
use Rattle.cdcl.specs.declared.state.State.{State}
use Rattle.cdcl.specs.TrailValue.{TrailValue}
use Rattle.cdcl.specs.Trail.{literal_at, IsBelow, IsFrom, IsTrail, was_set, is_set}
use Rattle.cdcl.specs.Growth.{Extends}
use Rattle.cdcl.specs.Learning.{HasTops, AreBeforeSecond, IsSecond}
use Rattle.cdcl.specs.Watch.{IsPairOf, IsSafe, AreSafe}
use Rattle.cdcl.specs.Added.{IsAdded}
use Rattle.cdcl.specs.State.{held_in, pairs_of, IsState, IsSafeAt}
use Rattle.cdcl.specs.Search.{IsSearchState}
use Rattle.cdcl.proofs.Literals.{opposite-opposite}
use Rattle.cdcl.proofs.Entries.{held_new}
use Rattle.cdcl.proofs.Members.{member_all}
use Rattle.cdcl.proofs.Trails.{was_set_below, below_was_set, all_set_push, trail_push, is_set-take, get-take}
use Rattle.cdcl.proofs.Visits.{was_set_grows}
use Rattle.cdcl.proofs.Growth.{was_set-extends, extends_push}
use Rattle.cdcl.proofs.Watching.{safe_more, safe_open}
use Rattle.cdcl.proofs.Searching.{starts_grow}
use Rattle.cdcl.proofs.Adding.{added_safe, added_listed, added_watches, still_held, either, trail_held}

-- what is set stays set
pub set_extends : (a b : TrailValue) (l : ℕ) → Extends a b → is_set a.steps l ≡ true → is_set b.steps l ≡ true
set_extends a b l e h =
    was_set_grows b.steps (length a.steps) (length b.steps) l e.longer
    (was_set-extends a b (length a.steps) l e (omega arith) ∙ h)

module _ (a b : State) (e : Entry) (p : Pair) (sc : b.clauses ≡ a.clauses ++ e ∷ [])
    (ad : IsAdded a.watches b.watches (length a.clauses) p) (ex : Extends a.trail b.trail) where
  -- the state
  pub state_added : IsState a → IsTrail (held_in b) b.trail.steps
      → ((c : List ℕ) → e ≡ Clause c → All (λ l. (l < a.trail.size) × (opposite l < a.trail.size)) c)
      → length a.clauses + 1 < 2 ^ 31 → IsState b
  state_added s t sm room = record {
    trail = t;
    small = λ id c h. rw ex.size (small id c h);
    paired = ap length ad.paired ∙ length-append a.watches.pairs.items (p ∷ []) ∙ ap (λ (n : ℕ). n + 1) s.paired
        ∙ sym (ap length sc ∙ length-append a.clauses (e ∷ []));
    listed = ad.same_size ∙ s.listed ∙ sym ex.size;
    few = (let n = ap length sc ∙ length-append a.clauses (e ∷ []) in rw n room);
  }
    where
      small : (id : ℕ) (c : List ℕ) → held_in b id ≡ Some (Clause c)
          → All (λ l. (l < a.trail.size) × (opposite l < a.trail.size)) c
      small zero c h = absurd (cc)
      small (suc k) c h =
          at (either a.clauses b.clauses e a.watches b.watches p sc s.paired ad k c
          (ap (held_in b) (let q : k + 1 ≡ suc k = omega arith in q) ∙ h))
        where
          at : (held_in a (k + 1) ≡ Some (Clause c)) ⊎ ((k ≡ length a.clauses) × (e ≡ Clause c))
              → All (λ l. (l < a.trail.size) × (opposite l < a.trail.size)) c
          at (inl q) = s.small (k + 1) c q
          at (inr q) = sm c q.1

  -- the search
  pub search_added : (starts : List ℕ) (head : ℕ) → IsSearchState a starts head → IsTrail (held_in b) b.trail.steps
      → ((c : List ℕ) → e ≡ Clause c → All (λ l. (l < a.trail.size) × (opposite l < a.trail.size)) c)
      → length a.clauses + 1 < 2 ^ 31
      → ((i : ℕ) → i < length starts → (c : List ℕ) → e ≡ Clause c
      → IsSafe (was_set a.trail.steps (get_or starts i 0)) (was_set a.trail.steps (get_or starts i 0)) c p)
      → ((c : List ℕ) → e ≡ Clause c → IsSafe (was_set a.trail.steps head) (is_set b.trail.steps) c p)
      → ((p.first ≡ p.second → ⊥) → (c : List ℕ) × (e ≡ Clause c) × IsPairOf c p) → IsSearchState b starts head
  search_added starts head s t sm room at_starts at_head pair = record {
    state = state_added s.state t sm room;
    decisions = starts_grow a.trail b.trail starts ex s.decisions;
    levels = record {
      safe = λ i h. back (get_or starts i 0) (let x = s.decisions.inside i h in omega arith)
          (added_safe a.clauses b.clauses e a.watches b.watches p sc s.state.paired ad
          (was_set a.trail.steps (get_or starts i 0)) (was_set a.trail.steps (get_or starts i 0))
          (s.levels.safe i h) (at_starts i h));
      drawn = (let x = ex.longer in let y = s.levels.drawn in omega arith);
      watching = record {
        at_head = λ k c h. safe_more (was_set a.trail.steps head) (was_set b.trail.steps head) (is_set b.trail.steps)
            (is_set b.trail.steps) c (pairs_of b k)
            (λ l x. sym (was_set-extends a.trail b.trail head l ex s.levels.drawn) ∙ x) (λ l x. x)
            (added_safe a.clauses b.clauses e a.watches b.watches p sc s.state.paired ad (was_set a.trail.steps head)
            (is_set b.trail.steps)
            (λ j d g. safe_more (was_set a.trail.steps head) (was_set a.trail.steps head) (is_set a.trail.steps)
            (is_set b.trail.steps) d (pairs_of a j) (λ l x. x) (λ l x. set_extends a.trail b.trail l ex x)
            (s.levels.watching.at_head j d g)) at_head k c h);
        listed = added_listed a.clauses b.clauses e a.watches b.watches p sc s.state.paired ad s.levels.watching.listed;
        watches = added_watches a.clauses b.clauses e a.watches b.watches p sc s.state.paired ad
            s.levels.watching.watches pair;
      };
    };
  }
    where
      back : (n : ℕ) → n ≤ length a.trail.steps
          → AreSafe (held_in b) (was_set a.trail.steps n) (was_set a.trail.steps n) (pairs_of b) → IsSafeAt b n
      back n h v k c g =
          safe_more (was_set a.trail.steps n) (was_set b.trail.steps n) (was_set a.trail.steps n)
          (was_set b.trail.steps n) c (pairs_of b k)
          (λ l x. sym (was_set-extends a.trail b.trail n l ex h) ∙ x)
          (λ l x. was_set-extends a.trail b.trail n l ex h ∙ x) (v k c g)

  -- the old trail over the new clauses
  pub trail_added : IsState a → IsTrail (held_in b) a.trail.steps
  trail_added s =
      trail_held (held_in a) (held_in b) a.trail.steps
      (still_held a.clauses b.clauses e a.watches b.watches p sc s.paired ad) s.trail

pub clause_is : (c d : List ℕ) → Clause c ≡ Clause d → c ≡ d
clause_is c d e = cc

pub held_last : (a b : State) (e : Entry) → b.clauses ≡ a.clauses ++ e ∷ [] → held_in b (length a.clauses + 1) ≡ Some e
held_last a b e sc = ap (λ (y : List Entry). held_by y (length a.clauses + 1)) sc ∙ held_new a.clauses e

-- a clause of which all literals but l are false sets l
pub unit_trail : (a b : State) (c : List ℕ) (l : ℕ) (p : Pair) (sc : b.clauses ≡ a.clauses ++ Clause c ∷ [])
    (ad : IsAdded a.watches b.watches (length a.clauses) p) → IsState a
    → IsUnit (is_set a.trail.steps) c l → b.trail.steps ≡ a.trail.steps
    ++ record { literal = l; reason = length a.clauses + 1 } ∷ [] → IsTrail (held_in b) b.trail.steps
unit_trail a b c l p sc ad s u st =
    rw st (trail_push (held_in b) a.trail.steps (record { literal = l; reason = length a.clauses + 1 })
    (trail_held (held_in a) (held_in b) a.trail.steps
    (still_held a.clauses b.clauses (Clause c) a.watches b.watches p sc s.paired ad) s.trail)
    (record {
      not_true = u.not_true;
      not_false = u.not_false;
      because = inr (c, held_last a b (Clause c) sc, u.stands, u.others_false);
    }))

pub unit_extends : (a b : State) (l : ℕ) → b.trail.size ≡ a.trail.size
    → b.trail.steps ≡ a.trail.steps ++ record { literal = l; reason = length a.clauses + 1 } ∷ []
    → is_set a.trail.steps l ≡ false → l < a.trail.size → Extends a.trail b.trail
unit_extends a b l sz st n h =
    extends_push a.trail b.trail (record { literal = l; reason = length a.clauses + 1 }) sz st n h
    (λ q. (let z = q in omega arith))

pub unit_true : (a b : State) (l : ℕ) → b.trail.steps ≡ a.trail.steps
    ++ record { literal = l; reason = length a.clauses + 1 } ∷ [] → is_set b.trail.steps l ≡ true
unit_true a b l st =
    ap (λ (t : List Step). is_set t l) st
    ∙ (let e = all_set_push a.trail.steps (record { literal = l; reason = length a.clauses + 1 }) l in
    grind (arith, common_steps, e))

-- a learnt clause, unit behind the way back, is watched by its first literal and the one just before second
module _ (a b : State) (starts : List ℕ) (c : List ℕ) (second : ℕ) (p : Pair)
    (k : IsSearchState a starts (length a.trail.steps)) (sc : b.clauses ≡ a.clauses ++ Clause c ∷ [])
    (ad : IsAdded a.watches b.watches (length a.clauses) p) (sz : b.trail.size ≡ a.trail.size)
    (st : b.trail.steps ≡ a.trail.steps ++ record { literal = get_or c 0 0; reason = length a.clauses + 1 } ∷ [])
    (u : IsUnit (is_set a.trail.steps) c (get_or c 0 0))
    (sm : All (λ l. (l < a.trail.size) × (opposite l < a.trail.size)) c) (room : length a.clauses + 1 < 2 ^ 31)
    (p1 : p.first ≡ get_or c 0 0) (p2 : 0 < second → p.second ≡ opposite (literal_at a.trail.steps (second - 1)))
    (p3 : second ≡ 0 → p.second ≡ get_or c 0 0)
    (sl : second ≤ length a.trail.steps) (is : IsSecond a.trail.steps c second)
    (below : (i : ℕ) → i < length starts → get_or starts i 0 < second) where
  other_false : 0 < second → is_set a.trail.steps (opposite p.second) ≡ true
  other_false h =
      let e : opposite p.second ≡ literal_at a.trail.steps (second - 1) =
      ap opposite (p2 h) ∙ opposite-opposite (literal_at a.trail.steps (second - 1)) in
      below_was_set a.trail.steps (length a.trail.steps) (opposite p.second) (second - 1, omega arith, sym e)

  pair_when : 0 < second → IsPairOf c p
  pair_when h = record {
    different =
        λ q. (let f = other_false h in let n = u.not_false in
        let e : opposite p.second ≡ opposite (get_or c 0 0) = ap opposite (sym q ∙ p1) in
        let g : is_set a.trail.steps (opposite (get_or c 0 0)) ≡ true = ap (is_set a.trail.steps) (sym e) ∙ f in
        absurd (cc));
    first_stands = rw p1 u.stands;
    second_stands = rw (p2 h) (is h);
  }

  pair_if : (p.first ≡ p.second → ⊥) → (d : List ℕ) × (Clause c ≡ Clause d) × IsPairOf d p
  pair_if n = (c, refl, at (cases_lt 0 second))
    where
      at : (0 < second) ⊎ (second ≤ 0) → IsPairOf c p
      at (inl h) = pair_when h
      at (inr h) = absurd (n (p1 ∙ sym (p3 (omega arith))))

  first_small : get_or c 0 0 < a.trail.size
  first_small = (member_all a.trail.size c (get_or c 0 0) sm u.stands).0

  open_first : (s : ℕ) → s ≤ length a.trail.steps → was_set a.trail.steps s (opposite p.first) ≡ false
  open_first s h = cases (was_set a.trail.steps s (opposite p.first)) refl
    where
      cases : (t : Bool) → was_set a.trail.steps s (opposite p.first) ≡ t → t ≡ false
      cases false e = refl
      cases true e =
          let g = was_set_grows a.trail.steps s (length a.trail.steps) (opposite p.first) h e in
          let n = u.not_false in
          let q : is_set a.trail.steps (opposite (get_or c 0 0)) ≡ true =
          ap (λ (x : ℕ). is_set a.trail.steps (opposite x)) (sym p1) ∙ g in
          absurd (cc)

  open_second : (s : ℕ) → s < second → was_set a.trail.steps s (opposite p.second) ≡ false
  open_second s h = cases (was_set a.trail.steps s (opposite p.second)) refl
    where
      cases : (t : Bool) → was_set a.trail.steps s (opposite p.second) ≡ t → t ≡ false
      cases false e = refl
      cases true e =
          let b = was_set_below a.trail.steps s (opposite p.second) e in
          let q : opposite p.second ≡ literal_at a.trail.steps (second - 1) =
          ap opposite (p2 (omega arith)) ∙ opposite-opposite (literal_at a.trail.steps (second - 1)) in
          let lt = b.1 in
          absurd (k.state.trail.once b.0 (second - 1) (omega arith) (omega arith) (b.2 ∙ q))

  at_start : (i : ℕ) → i < length starts
      → IsSafe (was_set a.trail.steps (get_or starts i 0)) (was_set a.trail.steps (get_or starts i 0)) c p
  at_start i h =
      let x = below i h in
      safe_open (was_set a.trail.steps (get_or starts i 0)) (was_set a.trail.steps (get_or starts i 0)) c p.first
      p.second (pair_when (omega arith))
      (open_first (get_or starts i 0) (omega arith)) (open_second (get_or starts i 0) x)

  pub learnt_search : IsSearchState b starts (length a.trail.steps)
  learnt_search =
      search_added a b (Clause c) p sc ad (unit_extends a b (get_or c 0 0) sz st u.not_true first_small) starts
      (length a.trail.steps) k
      (unit_trail a b c (get_or c 0 0) p sc ad k.state u st)
      (λ d q. subst (λ (x : List ℕ). All (λ l. (l < a.trail.size) × (opposite l < a.trail.size)) x)
      (clause_is c d q) sm) room
      (λ i h d q. subst (λ (x : List ℕ). IsSafe (was_set a.trail.steps (get_or starts i 0))
      (was_set a.trail.steps (get_or starts i 0)) x p) (clause_is c d q) (at_start i h))
      (λ d q. subst (λ (x : List ℕ). IsSafe (was_set a.trail.steps (length a.trail.steps)) (is_set b.trail.steps) x p)
      (clause_is c d q) (inr (get_or c 0 0, u.stands, unit_true a b (get_or c 0 0) st)))
      pair_if

-- behind the way back the learnt clause is unit
pub asserting : (held : Held) (t : List Step) (top to second : ℕ) (ls : List ℕ) → IsTrail held t → HasTops t top ls 1
    → AreBeforeSecond t top ls second → second ≤ to → to ≤ top → to ≤ length t
    → IsUnit (is_set (take to t)) ls (get_or ls 0 0)
asserting held t top to second ls r h b s u w = record {
  stands = h.0;
  not_true = off (get_or ls 0 0)
      (λ x. r.apart x.0 h.1.0 (let y = x.1 in let z = h.1.1 in omega arith) h.1.2 (ap opposite x.2 ∙ sym h.1.3));
  not_false =
      off (opposite (get_or ls 0 0))
      (λ x. r.once x.0 h.1.0 (let y = x.1 in let z = h.1.1 in omega arith) h.1.2 (x.2 ∙ sym h.1.3));
  others_false = λ x m. at x (h.2 x m) (b x m);
}
  where
    off : (l : ℕ) → (IsBelow t to l → ⊥) → is_set (take to t) l ≡ false
    off l n = is_set-take t to l w ∙ cases (was_set t to l) refl
      where
        cases : (v : Bool) → was_set t to l ≡ v → v ≡ false
        cases false e = refl
        cases true e = absurd (n (was_set_below t to l e))

    at : (x : ℕ) → (x ≡ get_or ls 0 0) ⊎ IsBelow t top (opposite x) → IsFrom t top (opposite x)
        ⊎ IsBelow t second (opposite x) → (x ≡ get_or ls 0 0) ⊎ (is_set (take to t) (opposite x) ≡ true)
    at x (inl e) f = inl e
    at x (inr e) (inl f) = absurd (r.once e.0 f.0 (let y = e.1 in let z = f.1 in omega arith) f.2 (e.2 ∙ sym f.3))
    at x (inr e) (inr f) =
        inr (is_set-take t to (opposite x) w ∙ below_was_set t to (opposite x) (f.0, (let y = f.1 in omega arith), f.2))

pub second_after : (t : List Step) (to second : ℕ) (ls : List ℕ) → second ≤ to → IsSecond t ls second
    → IsSecond (take to t) ls second
second_after t to second ls h s k =
    let e : literal_at (take to t) (second - 1) ≡ literal_at t (second - 1) =
    ap (λ (x : Step). x.literal) (get-take t to (second - 1) (omega arith)) in
    rw e (s k)

pub not_empty : (ls : List ℕ) → member (get_or ls 0 0) ls ≡ true → 0 < length ls
not_empty [] h = absurd (cc)
not_empty (x ∷ ls) h = omega arith

-- what each member of a list has, each element has
pub all_members : (ls : List ℕ) (n : ℕ) → ((x : ℕ) → member x ls ≡ true → (x < n) × (opposite x < n))
    → All (λ l. (l < n) × (opposite l < n)) ls
all_members [] n f i d h = absurd (omega arith)
all_members (x ∷ ls) n f zero d h = f x (grind (arith, common_steps))
all_members (x ∷ ls) n f (suc i) d h = all_members ls n (λ y s. f y (grind (arith, common_steps, s))) i d (omega arith)

-- the literals of a resolvent have values
pub resolvent_small : (s : State) (ls hints : List ℕ) → IsState s → IsResolvent (held_in s) ls hints
    → All (λ l. (l < s.trail.size) × (opposite l < s.trail.size)) ls
resolvent_small s ls hints t r =
    all_members ls s.trail.size
    (λ x m. (let d = r.drawn x m in member_all s.trail.size d.1 x (t.small d.0 d.1 d.3) d.4))
