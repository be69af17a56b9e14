-- One more clause is watched.
use Rattle.std.proofs.Common.{◌≡◌, ℕ, ◌+◌, ◌<◌, ◌⊎◌, Bool, List, [], ◌∷◌, ◌++◌, length, length-set, get_or, set, refl}
use Rattle.std.proofs.Common.{arith, ap, sym, subst, ◌∙◌, inl, inr, Some}
use Rattle.std.proofs.lemmas.List.{get_or-set_same, get_or-set_other}
use Rattle.std.proofs.Math.ListN.{get_or-append}
use Rattle.std.proofs.Math.Seq.{get_or-append_seam}
use Rattle.std.proofs.lemmas.Bool.{cases_eq}
use Rattle.cnf_base.specs.declared.cnf.Entry.{Entry}
use Rattle.cnf_base.specs.declared.cnf.Entry.TheVariants.{Clause}
use Rattle.cdcl.specs.declared.trail.Step.{Step}
use Rattle.cdcl.specs.Trail.{reason_at, HasReason, IsTrail}
use Rattle.cdcl.proofs.Entries.{held_old, held_new, held_either, held_place}
use Rattle.lrat_log.specs.Held.{Held, held_by}
use Rattle.cdcl_tables.specs.declared.watches.Pair.{Pair}
use Rattle.cdcl_tables.specs.declared.watches.Watch.{Watch}
use Rattle.cdcl_tables.specs.declared.watches.Watches.{Watches}
use Rattle.cdcl_tables.specs.Nothing.{no_pair, no_watch}
use Rattle.cdcl.specs.Watch.{Pairs, pair_at, list_at, IsPairOf, IsSafe, AreSafe, StandsIn, IsWatch, AreWatches}
use Rattle.cdcl.specs.Watch.{AreListed}
use Rattle.cdcl.specs.Added.{IsAdded}
use Rattle.cdcl.proofs.Visits.{stands_old, stands_new, watches_pushed}

pub record IsPushed (l m : List (List Watch)) (a : ℕ) (w : Watch) : Type 0 where
  pub small : a < length l
  pub same : m ≡ set l a (get_or l a [] ++ w ∷ [])

pushed_here : (l m : List (List Watch)) (a : ℕ) (w : Watch) → IsPushed l m a w → list_at m a ≡ list_at l a ++ w ∷ []
pushed_here l m a w p =
    ap (λ (x : List (List Watch)). get_or x a []) p.same ∙ get_or-set_same l a (get_or l a [] ++ w ∷ []) [] p.small

pushed_there : (l m : List (List Watch)) (a : ℕ) (w : Watch) (x : ℕ) → IsPushed l m a w → (x ≡ a → ⊥)
    → list_at m x ≡ list_at l x
pushed_there l m a w x p n =
    ap (λ (y : List (List Watch)). get_or y x []) p.same ∙ get_or-set_other l a x (get_or l a [] ++ w ∷ []) [] n

pushed_grown : (l m : List (List Watch)) (a : ℕ) (w : Watch) (x k : ℕ) → IsPushed l m a w → StandsIn (list_at l x) k
    → StandsIn (list_at m x) k
pushed_grown l m a w x k p s = at (cases_eq x a)
  where
    at : (x ≡ a) ⊎ (x ≡ a → ⊥) → StandsIn (list_at m x) k
    at (inr q) = subst (λ (y : List Watch). StandsIn y k) (sym (pushed_there l m a w x p q)) s
    at (inl q) =
        subst (λ (y : List Watch). StandsIn y k) (sym (ap (list_at m) q ∙ pushed_here l m a w p))
        (stands_old (list_at l a) w k (subst (λ (y : ℕ). StandsIn (list_at l y) k) q s))

pushed_new : (l m : List (List Watch)) (a : ℕ) (w : Watch) → IsPushed l m a w → StandsIn (list_at m a) w.place
pushed_new l m a w p =
    subst (λ (y : List Watch). StandsIn y w.place) (sym (pushed_here l m a w p)) (stands_new (list_at l a) w)

pushed_watches : (held : Held) (pairs : Pairs) (l m : List (List Watch)) (a : ℕ) (w : Watch) → IsPushed l m a w
    → IsWatch held pairs w
    → ((x : ℕ) → AreWatches held pairs (list_at l x)) → (x : ℕ) → AreWatches held pairs (list_at m x)
pushed_watches held pairs l m a w p i v x = at (cases_eq x a)
  where
    at : (x ≡ a) ⊎ (x ≡ a → ⊥) → AreWatches held pairs (list_at m x)
    at (inr q) = subst (AreWatches held pairs) (sym (pushed_there l m a w x p q)) (v x)
    at (inl q) =
        subst (AreWatches held pairs) (sym (ap (list_at m) q ∙ pushed_here l m a w p))
        (watches_pushed held pairs (list_at l a) w (v a) i)

pub new_pair : (ps qs : List Pair) (p : Pair) (k : ℕ) → qs ≡ ps ++ p ∷ [] → k ≡ length ps → pair_at qs k ≡ p
new_pair ps qs p k e n =
    ap (λ (x : List Pair). get_or x k no_pair) e ∙ ap (λ (y : ℕ). get_or (ps ++ p ∷ []) y no_pair) n
    ∙ get_or-append_seam ps p [] no_pair

pub old_pair : (ps qs : List Pair) (p : Pair) (k : ℕ) → qs ≡ ps ++ p ∷ [] → k < length ps → pair_at qs k ≡ pair_at ps k
old_pair ps qs p k e n = ap (λ (x : List Pair). get_or x k no_pair) e ∙ get_or-append ps (p ∷ []) no_pair k n

-- both literals get the clause into their lists
pub added_both : (old new : Watches) (mid : List (List Watch)) (place : ℕ) (p : Pair) → (p.first ≡ p.second → ⊥)
    → place ≡ length old.pairs.items → new.pairs.items ≡ old.pairs.items ++ p ∷ []
    → IsPushed old.lists.items mid p.first (record { place = place; blocker = p.second })
    → IsPushed mid new.lists.items p.second (record { place = place; blocker = p.first })
    → IsAdded old new place p
added_both old new mid place p d n e f g = record {
  paired = e;
  same_size = rw (g.same, length-set, f.same, length-set) refl;
  grown = λ x k s. pushed_grown mid new.lists.items p.second _ x k g
      (pushed_grown old.lists.items mid p.first _ x k f s);
  in_first = λ q. pushed_grown mid new.lists.items p.second _ p.first place g
      (pushed_new old.lists.items mid p.first _ f);
  in_second = λ q. pushed_new mid new.lists.items p.second _ g;
  are_watches = λ held i v.
      (let k = i d in
      let here : IsPairOf k.0 (pair_at new.pairs.items place) =
      rw (new_pair old.pairs.items new.pairs.items p place e n) k.2 in
      pushed_watches held (pair_at new.pairs.items) mid new.lists.items p.second _ g
      (record { clause = k.0; held_as = k.1; blocker = k.2.first_stands; pair = here })
      (pushed_watches held (pair_at new.pairs.items) old.lists.items mid p.first _ f
      (record { clause = k.0; held_as = k.1; blocker = k.2.second_stands; pair = here }) v));
}

-- one literal twice is no pair
pub added_none : (old new : Watches) (place : ℕ) (p : Pair) → p.first ≡ p.second
    → new.pairs.items ≡ old.pairs.items ++ p ∷ [] → new.lists.items ≡ old.lists.items → IsAdded old new place p
added_none old new place p d e l = record {
  paired = e;
  same_size = ap length l;
  grown = λ x k s. rw l s;
  in_first = λ q. absurd (q d);
  in_second = λ q. absurd (q d);
  are_watches = λ held i v x. rw l (v x);
}

-- the clauses es, whose pairs and lists stand in old, get one more entry e
module _ (es fs : List Entry) (e : Entry) (old new : Watches) (p : Pair) (more : fs ≡ es ++ e ∷ [])
    (count : length old.pairs.items ≡ length es)
    (added : IsAdded old new (length es) p) where
  here : pair_at new.pairs.items (length es) ≡ p
  here = new_pair old.pairs.items new.pairs.items p (length es) added.paired (sym count)

  before : (k : ℕ) → k < length es → pair_at new.pairs.items k ≡ pair_at old.pairs.items k
  before k h = old_pair old.pairs.items new.pairs.items p k added.paired (let c = count in omega arith)

  pub either : (k : ℕ) (c : List ℕ) → held_by fs (k + 1) ≡ Some (Clause c) → (held_by es (k + 1) ≡ Some (Clause c))
      ⊎ ((k ≡ length es) × (e ≡ Clause c))
  either k c h = at (held_either es e (Clause c) (k + 1) (ap (λ (x : List Entry). held_by x (k + 1)) (sym more) ∙ h))
    where
      at : (held_by es (k + 1) ≡ Some (Clause c)) ⊎ ((k + 1 ≡ length es + 1) × (e ≡ Clause c))
          → (held_by es (k + 1) ≡ Some (Clause c)) ⊎ ((k ≡ length es) × (e ≡ Clause c))
      at (inl q) = inl q
      at (inr q) = inr ((let z = q.0 in omega arith), q.1)

  pub still_held : (id : ℕ) (x : Entry) → held_by es id ≡ Some x → held_by fs id ≡ Some x
  still_held id x h = ap (λ (y : List Entry). held_by y id) more ∙ held_old es e x id h

  pub added_safe : (front now : ℕ → Bool) → AreSafe (held_by es) front now (pair_at old.pairs.items)
      → ((c : List ℕ) → e ≡ Clause c → IsSafe front now c p) → AreSafe (held_by fs) front now (pair_at new.pairs.items)
  added_safe front now s n k c h = at (either k c h)
    where
      at : (held_by es (k + 1) ≡ Some (Clause c)) ⊎ ((k ≡ length es) × (e ≡ Clause c))
          → IsSafe front now c (pair_at new.pairs.items k)
      at (inl q) = rw (before k (held_place es k (Clause c) q)) (s k c q)
      at (inr q) = rw (q.0, here) (n c q.1)

  pub added_listed : AreListed (held_by es) (pair_at old.pairs.items) (list_at old.lists.items)
      → AreListed (held_by fs) (pair_at new.pairs.items) (list_at new.lists.items)
  added_listed l k c h i = at (either k c h)
    where
      at : (held_by es (k + 1) ≡ Some (Clause c)) ⊎ ((k ≡ length es) × (e ≡ Clause c))
          → StandsIn (list_at new.lists.items (pair_at new.pairs.items k).first) k
          × StandsIn (list_at new.lists.items (pair_at new.pairs.items k).second) k
      at (inl q) =
          let b = before k (held_place es k (Clause c) q) in
          let o = l k c q (rw (← b) i) in
          rw b (
            added.grown (pair_at old.pairs.items k).first k o.0,
            added.grown (pair_at old.pairs.items k).second k o.1,
          )
      at (inr q) =
          let d : p.first ≡ p.second → ⊥ = (rw (q.0, here) at i).different in
          rw (q.0, here) (added.in_first d, added.in_second d)

  pub added_watches : ((x : ℕ) → AreWatches (held_by es) (pair_at old.pairs.items) (list_at old.lists.items x))
      → ((p.first ≡ p.second → ⊥) → (c : List ℕ) × (e ≡ Clause c) × IsPairOf c p)
      → (x : ℕ) → AreWatches (held_by fs) (pair_at new.pairs.items) (list_at new.lists.items x)
  added_watches v n = added.are_watches (held_by fs)
      (λ d. (let w = n d in (
        w.0,
        ap (λ (y : List Entry). held_by y (length es + 1)) more ∙ held_new es e
            ∙ ap (λ (y : Entry). Some y) w.1,
        w.2,
      )))
      (λ x i h. (let w = v x i h in record {
        clause = w.clause;
        held_as = still_held ((get_or (list_at old.lists.items x) i no_watch).place + 1) (Clause w.clause) w.held_as;
        blocker = w.blocker;
        pair = rw (before (get_or (list_at old.lists.items x) i no_watch).place
            (held_place es (get_or (list_at old.lists.items x) i no_watch).place (Clause w.clause) w.held_as)) w.pair;
      }))

-- a trail over more clauses
pub trail_held : (held more : Held) (t : List Step) → ((id : ℕ) (x : Entry) → held id ≡ Some x → more id ≡ Some x)
    → IsTrail held t → IsTrail more t
trail_held held more t m r = record {
  once = r.once;
  apart = r.apart;
  reasons = λ i h. at i (r.reasons i h);
}
  where
    at : (i : ℕ) → (reason_at t i ≡ 0) ⊎ HasReason held t i → (reason_at t i ≡ 0) ⊎ HasReason more t i
    at i (inl e) = inl e
    at i (inr w) =
        inr (record {
          clause = w.clause;
          held_as = m (reason_at t i) (Clause w.clause) w.held_as;
          stands = w.stands;
          others = w.others;
        })
