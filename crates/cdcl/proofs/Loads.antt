-- How a search begins.
use Rattle.std.proofs.Common.{◌≡◌, ℕ, zero, suc, ◌+◌, ◌^◌, ◌<◌, Bool, true, false, List, [], ◌∷◌, ◌++◌}
use Rattle.std.proofs.Common.{length, get_or, replicate, refl, arith, ap, sym, subst, ◌∙◌, inl, inr, Some}
use Rattle.std.proofs.lemmas.Grind.{common_steps}
use Rattle.std.specs.List.{All}
use Rattle.cnf_base.specs.declared.cnf.Entry.{Entry}
use Rattle.cnf_base.specs.declared.cnf.Entry.TheVariants.{Clause, True}
use Rattle.cnf_base.specs.Literals.{opposite, member}
use Rattle.cdcl.specs.declared.trail.Step.{Step}
use Rattle.cdcl_tables.specs.declared.watches.Pair.{Pair}
use Rattle.cdcl.specs.declared.state.State.{State}
use Rattle.cdcl.specs.TrailValue.{TrailValue}
use Rattle.cdcl.specs.Trail.{reason_at, IsTrail, IsConflict, was_set, is_set}
use Rattle.lrat_log.specs.Held.{held_by}
use Rattle.cdcl.specs.Growth.{Extends}
use Rattle.cdcl.specs.Watch.{list_at, IsPairOf}
use Rattle.cdcl.specs.Added.{IsAdded}
use Rattle.cdcl.specs.State.{held_in, IsState}
use Rattle.cdcl.specs.Search.{AreStarts, IsSearchState}
use Rattle.cdcl.proofs.Entries.{held_id}
use Rattle.cdcl.proofs.Members.{member_all}
use Rattle.cdcl.proofs.Trails.{was_set_below}
use Rattle.cdcl.proofs.Watching.{safe_open}
use Rattle.cdcl.proofs.Growth.{extends_refl}
use Rattle.cdcl.proofs.Asserting.{state_added, search_added, trail_added, held_last, unit_trail, unit_extends}
use Rattle.cdcl.proofs.Asserting.{unit_true, clause_is}

none_held : (es : List Entry) (id : ℕ) (e : Entry) → es ≡ [] → held_by es id ≡ Some e → ⊥
none_held es id e z h = let l = held_id es id e h in let n : length es ≡ 0 = ap length z in let a = l.0 in
    let b = l.1 in omega arith

-- a search without clauses
pub root_search : (s : State) (starts : List ℕ) (head : ℕ) → s.clauses ≡ [] → s.trail.steps ≡ []
    → s.watches.pairs.items ≡ [] → length s.watches.lists.items ≡ s.trail.size
    → ((i : ℕ) → list_at s.watches.lists.items i ≡ [])
    → starts ≡ [] → head ≡ 0 → IsSearchState s starts head
root_search s starts head ec et ep el ei es eh = record {
  state = record {
    trail = record {
      once = λ i j h k e. absurd (no_step_at j k);
      apart = λ i j h k e. absurd (no_step_at j k);
      reasons = λ i k. absurd (no_step_at i k);
    };
    small = λ id c h. absurd (none_held s.clauses id (Clause c) ec h);
    paired = ap length ep ∙ sym (ap length ec);
    listed = el;
    few = (let n : length s.clauses ≡ 0 = ap length ec in omega arith);
  };
  decisions = record {
    rising = λ i j h k. absurd (no_start j k);
    inside = λ i k. absurd (no_start i k);
    decided = λ i k e. absurd (no_step_at i k);
  };
  levels = record {
    safe = λ i k. absurd (no_start i k);
    drawn = omega arith;
    watching = record {
      at_head = λ k c h. absurd (none_held s.clauses (k + 1) (Clause c) ec h);
      listed = λ k c h. absurd (none_held s.clauses (k + 1) (Clause c) ec h);
      watches = λ w i k. absurd (let e : length (list_at s.watches.lists.items w) ≡ 0 = ap length (ei w) in
          omega arith);
    };
  };
}
  where
    no_step_at : (i : ℕ) → i < length s.trail.steps → ⊥
    no_step_at i h = let n : length s.trail.steps ≡ 0 = ap length et in omega arith

    no_start : (i : ℕ) → i < length starts → ⊥
    no_start i h = let n : length starts ≡ 0 = ap length es in omega arith

-- at level 0 each literal has its reason
pub all_forced : (trail : List Step) (starts : List ℕ) → AreStarts trail starts → starts ≡ [] → (i : ℕ)
    → i < length trail → reason_at trail i ≡ 0 → ⊥
all_forced trail starts a z i h e = let d = a.decided i h e in let n : length starts ≡ 0 = ap length z in let l = d.1 in
    omega arith

pub same_trail : (t u : TrailValue) → u ≡ t → Extends t u
same_trail t u e = subst (λ (x : TrailValue). Extends t x) (sym e) (extends_refl t)

-- one more entry at level 0
module _ (a b : State) (e : Entry) (p : Pair) (starts : List ℕ) (head : ℕ) (k : IsSearchState a starts head)
    (z : starts ≡ []) (hz : head ≡ 0)
    (sc : b.clauses ≡ a.clauses ++ e ∷ []) (ad : IsAdded a.watches b.watches (length a.clauses) p)
    (room : length a.clauses + 1 < 2 ^ 31) where
  pub trail_same : b.trail ≡ a.trail → IsTrail (held_in b) b.trail.steps
  trail_same st =
      subst (λ (t : TrailValue). IsTrail (held_in b) t.steps) (sym st)
      (trail_added a b e p sc ad (same_trail a.trail b.trail st) k.state)

  -- watched by two literals, or by none where it is always true
  pub entry_added : b.trail ≡ a.trail
      → ((c : List ℕ) → e ≡ Clause c → All (λ l. (l < a.trail.size) × (opposite l < a.trail.size)) c)
      → ((c : List ℕ) → e ≡ Clause c → IsPairOf c p)
      → ((p.first ≡ p.second → ⊥) → (c : List ℕ) × (e ≡ Clause c) × IsPairOf c p) → IsSearchState b starts head
  entry_added st sm pr n =
      search_added a b e p sc ad (same_trail a.trail b.trail st) starts head k (trail_same st) sm room
      (λ i h c q. absurd (let m : length starts ≡ 0 = ap length z in omega arith))
      (λ c q. rw hz (safe_open (was_set a.trail.steps 0) (is_set b.trail.steps) c p.first p.second (pr c q) refl refl))
      n

  -- the clause is false
  pub false_state : b.trail ≡ a.trail
      → ((c : List ℕ) → e ≡ Clause c → All (λ l. (l < a.trail.size) × (opposite l < a.trail.size)) c) → IsState b
  false_state st sm = state_added a b e p sc ad (same_trail a.trail b.trail st) k.state (trail_same st) sm room

  pub false_forced : b.trail ≡ a.trail → (i : ℕ) → i < length b.trail.steps → reason_at b.trail.steps i ≡ 0 → ⊥
  false_forced st =
      subst (λ (t : TrailValue). (i : ℕ) → i < length t.steps → reason_at t.steps i ≡ 0 → ⊥) (sym st)
      (all_forced a.trail.steps starts k.decisions z)

-- the clause of no literal, or of one that is false
pub empty_conflict : (a b : State) (c : List ℕ) → b.clauses ≡ a.clauses ++ Clause c ∷ [] → c ≡ []
    → IsConflict (held_in b) b.trail.steps (length a.clauses + 1)
empty_conflict a b c sc z =
    record {
      clause = c;
      held_as = held_last a b (Clause c) sc;
      all_false = λ x m. absurd (let n : member x [] ≡ true = ap (member x) (sym z) ∙ m in cc);
    }

one_member : (x l : ℕ) → member x (l ∷ []) ≡ true → x ≡ l
one_member x l h = grind (arith, common_steps, h)

pub unit_conflict : (a b : State) (c : List ℕ) (l : ℕ) → b.clauses ≡ a.clauses ++ Clause c ∷ [] → c ≡ l ∷ []
    → is_set b.trail.steps (opposite l) ≡ true → IsConflict (held_in b) b.trail.steps (length a.clauses + 1)
unit_conflict a b c l sc z t = record {
  clause = c;
  held_as = held_last a b (Clause c) sc;
  all_false =
      λ x m. was_set_below b.trail.steps (length b.trail.steps) (opposite x)
      (ap (λ (y : ℕ). is_set b.trail.steps (opposite y)) (one_member x l (ap (member x) (sym z) ∙ m)) ∙ t);
}

pub unit_small : (c : List ℕ) (l n : ℕ) → c ≡ l ∷ [] → (l < n) × (opposite l < n) → (d : List ℕ) → Clause c ≡ Clause d
    → All (λ x. (x < n) × (opposite x < n)) d
unit_small c l n z s d q = subst (λ (x : List ℕ). All (λ y. (y < n) × (opposite y < n)) x) (sym z ∙ clause_is c d q) one
  where
    one : All (λ y. (y < n) × (opposite y < n)) (l ∷ [])
    one zero d h = s
    one (suc i) d h = absurd (omega arith)

unit_stands : (c : List ℕ) (l : ℕ) → c ≡ l ∷ [] → member l c ≡ true
unit_stands c l z = ap (member l) z ∙ grind (arith, common_steps)

-- a clause of one literal that is true, or is set
module _ (a b : State) (c : List ℕ) (l : ℕ) (p : Pair) (starts : List ℕ) (head : ℕ) (k : IsSearchState a starts head)
    (z : starts ≡ [])
    (sc : b.clauses ≡ a.clauses ++ Clause c ∷ []) (ad : IsAdded a.watches b.watches (length a.clauses) p)
    (room : length a.clauses + 1 < 2 ^ 31)
    (one : c ≡ l ∷ []) (sm : (l < a.trail.size) × (opposite l < a.trail.size)) (dp : p.first ≡ p.second) where
  pub unit_search : (ex : Extends a.trail b.trail) → IsTrail (held_in b) b.trail.steps → is_set b.trail.steps l ≡ true
      → IsSearchState b starts head
  unit_search ex t s = search_added a b (Clause c) p sc ad ex starts head k t (unit_small c l a.trail.size one sm) room
      (λ i h d q. absurd (let m : length starts ≡ 0 = ap length z in omega arith))
      (λ d q. inr (l, ap (member l) (sym (clause_is c d q)) ∙ unit_stands c l one, s)) (λ n. absurd (n dp))

  pub unit_set_search : is_set a.trail.steps l ≡ false → is_set a.trail.steps (opposite l) ≡ false
      → b.trail.size ≡ a.trail.size
      → b.trail.steps ≡ a.trail.steps ++ record { literal = l; reason = length a.clauses + 1 } ∷ []
      → IsSearchState b starts head
  unit_set_search nt nf sz st = unit_search (unit_extends a b l sz st nt sm.0)
      (unit_trail a b c l p sc ad k.state
      (record {
        stands = unit_stands c l one;
        not_true = nt;
        not_false = nf;
        others_false = λ x m. inl (one_member x l (ap (member x) (sym one) ∙ m));
      }) st)
      (unit_true a b l st)

pub empty_small : (c : List ℕ) (n : ℕ) → c ≡ [] → (d : List ℕ) → Clause c ≡ Clause d
    → All (λ x. (x < n) × (opposite x < n)) d
empty_small c n z d q =
    subst (λ (x : List ℕ). All (λ y. (y < n) × (opposite y < n)) x) (sym z ∙ clause_is c d q)
    (λ i e h. absurd (omega arith))

pub clause_small : (c : List ℕ) (n : ℕ) → All (λ x. (x < n) × (opposite x < n)) c → (d : List ℕ) → Clause c ≡ Clause d
    → All (λ x. (x < n) × (opposite x < n)) d
clause_small c n s d q = subst (λ (x : List ℕ). All (λ y. (y < n) × (opposite y < n)) x) (clause_is c d q) s

pub clause_pair : (c : List ℕ) (p : Pair) → IsPairOf c p → (d : List ℕ) → Clause c ≡ Clause d → IsPairOf d p
clause_pair c p s d q = subst (λ (x : List ℕ). IsPairOf x p) (clause_is c d q) s

pub true_is_no_clause : (c : List ℕ) → True ≡ Clause c → ⊥
true_is_no_clause c e = cc

pub pair_small : (c : List ℕ) (p : Pair) (n m : ℕ) → m ≡ n → IsPairOf c p → All (λ x. (x < n) × (opposite x < n)) c
    → (p.first < m) × (p.second < m)
pair_small c p n m e i s =
    (rw e (member_all n c p.first s i.first_stands).0, rw e (member_all n c p.second s i.second_stands).0)

-- all marks are clear
pub clear_marks : (marks : List Bool) (n : ℕ) → marks ≡ replicate n false → (l : ℕ) → get_or marks l false ≡ false
clear_marks marks n e l = ap (λ (m : List Bool). get_or m l false) e ∙ go n l
  where
    go : (n l : ℕ) → get_or (replicate n false) l false ≡ false
    go zero l = refl
    go (suc n) zero = refl
    go (suc n) (suc l) = go n l
