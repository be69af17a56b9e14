-- The invariant of a search, kept by propagation, by a decision and by going back.
use Rattle.std.proofs.Common.{◌≡◌, ℕ, ◌+◌, ◌*◌, ◌<◌, ◌≤◌, ◌⊎◌, false, List, [], ◌∷◌, ◌++◌, length, length-append}
use Rattle.std.proofs.Common.{get_or, take, refl, arith, ap, sym, subst, ◌∙◌, inl, inr, Some}
use Rattle.std.proofs.lemmas.Grind.{common_steps}
use Rattle.std.proofs.lemmas.Bool.{cases_lt}
use Rattle.std.proofs.Math.ListN.{get_or-append}
use Rattle.std.proofs.Math.Seq.{get_or-append_seam}
use Rattle.std.proofs.lemmas.List.{get_or-take}
use Rattle.cnf_base.specs.declared.cnf.Entry.TheVariants.{Clause}
use Rattle.cnf_base.specs.Literals.{opposite}
use Rattle.lrat_log.specs.Held.{Held}
use Rattle.lrat_log.specs.Learnt.{IsQuiet}
use Rattle.cdcl.specs.declared.trail.Step.{Step}
use Rattle.cdcl.specs.declared.state.State.{State}
use Rattle.cdcl.specs.TrailValue.{TrailValue}
use Rattle.cdcl.specs.Trail.{reason_at, was_set, is_set, free}
use Rattle.cdcl.specs.Growth.{Extends}
use Rattle.cdcl.specs.Watch.{Pairs, WereSafe, IsWatching}
use Rattle.cdcl.specs.State.{held_in, pairs_of, lists_of, IsState, IsSafeAt, Grows, IsWatchingAt}
use Rattle.cdcl.specs.Holding.{IsHolding}
use Rattle.cdcl.specs.Search.{AreStarts, IsSearchState}
use Rattle.cdcl.proofs.Trails.{was_set-push, all_set_push, trail_push, trail_cut, was_set-take, is_set-take}
use Rattle.cdcl.specs.Assigned.{IsUnset}
use Rattle.cdcl.proofs.Literals.{opposite-even, opposite-odd}
use Rattle.cdcl.proofs.Growth.{free_less}
use Rattle.cdcl.proofs.Levels.{starts_decided, starts_cut}
use Rattle.cdcl.proofs.Watching.{safe_more, all_quiet}

-- the clauses and the trail of a state
pub state_holds : (s : State) → IsState s → IsHolding s.clauses s.trail
state_holds s h = record { trail = h.trail; small = h.small; few = h.few }

-- propagation
pub starts_grow : (a b : TrailValue) (starts : List ℕ) → Extends a b → AreStarts a.steps starts
    → AreStarts b.steps starts
starts_grow a b starts e s = record {
  rising = s.rising;
  inside = λ i h. (let x = s.inside i h in let y = e.longer in omega arith);
  decided = λ i h z. at i h z (cases_lt i (length a.steps));
}
  where
    at : (i : ℕ) → i < length b.steps → reason_at b.steps i ≡ 0 → (i < length a.steps) ⊎ (length a.steps ≤ i)
        → (j : ℕ) × (j < length starts) × (get_or starts j 0 ≡ i)
    at i h z (inl k) = s.decided i k (ap (λ (x : Step). x.reason) (sym (e.same i k)) ∙ z)
    at i h z (inr k) = absurd (e.forced i k h z)

pub search_grows : (a b : State) (starts : List ℕ) (head head' : ℕ) → IsSearchState a starts head → Grows a b
    → IsState b → head' ≤ length b.trail.steps → IsWatchingAt b head' → IsSearchState b starts head'
search_grows a b starts head head' s g t h w = record {
  state = t;
  decisions = starts_grow a.trail b.trail starts g.extends s.decisions;
  levels = record {
    safe = λ i k. g.safe (get_or starts i 0) (let x = s.decisions.inside i k in omega arith) (s.levels.safe i k);
    drawn = h;
    watching = w;
  };
}

-- nothing is false or unit where a level begins
pub level_quiet : (s : State) (starts : List ℕ) (head i : ℕ) → IsSearchState s starts head → i < length starts
    → IsQuiet (held_in s) (was_set s.trail.steps (get_or starts i 0))
level_quiet s starts head i k h =
    all_quiet (held_in s) s.trail.steps (get_or starts i 0) (pairs_of s) k.state.trail refl
    (let x = k.decisions.inside i h in omega arith) (k.levels.safe i h)

-- a trail with one more step, at places up to its old end
safe_pushed : (held : Held) (t : List Step) (s : Step) (pairs : Pairs) (n : ℕ) → n ≤ length t → WereSafe held t pairs n
    → WereSafe held (t ++ s ∷ []) pairs n
safe_pushed held t s pairs n h v k c e =
    safe_more (was_set t n) (was_set (t ++ s ∷ []) n) (was_set t n) (was_set (t ++ s ∷ []) n) c (pairs k)
    (λ l x. sym (was_set-push t s n l h) ∙ x) (λ l x. was_set-push t s n l h ∙ x) (v k c e)

pub watching_pushed : (held : Held) (t : List Step) (s : Step) (head : ℕ) (a : State) → head ≤ length t
    → IsWatching held t head (pairs_of a) (lists_of a) → IsWatching held (t ++ s ∷ []) head (pairs_of a) (lists_of a)
watching_pushed held t s head a h w = record {
  at_head = λ k c e. safe_more (was_set t head) (was_set (t ++ s ∷ []) head) (is_set t) (is_set (t ++ s ∷ [])) c
      (pairs_of a k) (λ l x. sym (was_set-push t s head l h) ∙ x)
      (λ l x. (let q = all_set_push t s l in grind (arith, common_steps, q, x))) (w.at_head k c e);
  listed = w.listed;
  watches = w.watches;
}

-- a decision begins a level
module _ (a b : State) (starts : List ℕ) (l : ℕ) (k : IsSearchState a starts (length a.trail.steps))
    (sc : b.clauses ≡ a.clauses) (sw : b.watches ≡ a.watches)
    (sz : b.trail.size ≡ a.trail.size) (st : b.trail.steps ≡ a.trail.steps ++ record { literal = l; reason = 0 } ∷ [])
    (nt : is_set a.trail.steps l ≡ false) (nf : is_set a.trail.steps (opposite l) ≡ false) where
  step : Step
  step = record { literal = l; reason = 0 }

  pub decided_search : IsSearchState b (starts ++ length a.trail.steps ∷ []) (length a.trail.steps)
  decided_search = record {
    state = record {
      trail = rw (st, sc)
          (trail_push (held_in a) a.trail.steps (record { literal = l; reason = 0 }) k.state.trail
          (record { not_true = nt; not_false = nf; because = inl refl }));
      small = rw (sc, sz) k.state.small;
      paired = rw (sc, sw) k.state.paired;
      listed = rw (sw, sz) k.state.listed;
      few = rw sc k.state.few;
    };
    decisions = rw st (starts_decided a.trail.steps l starts k.decisions);
    levels = record {
      safe = safety;
      drawn = (let e = len in omega arith);
      watching = rw (st, sc, sw)
          (watching_pushed (held_in a) a.trail.steps (record { literal = l; reason = 0 }) (length a.trail.steps) a
          (omega arith) k.levels.watching);
    };
  }
    where
      len : length b.trail.steps ≡ length a.trail.steps + 1
      len = ap length st ∙ length-append a.trail.steps (record { literal = l; reason = 0 } ∷ [])

      count : length (starts ++ length a.trail.steps ∷ []) ≡ length starts + 1
      count = length-append starts (length a.trail.steps ∷ [])

      start_old : (i : ℕ) → i < length starts → get_or (starts ++ length a.trail.steps ∷ []) i 0 ≡ get_or starts i 0
      start_old i h = get_or-append starts (length a.trail.steps ∷ []) 0 i h

      start_new : get_or (starts ++ length a.trail.steps ∷ []) (length starts) 0 ≡ length a.trail.steps
      start_new = get_or-append_seam starts (length a.trail.steps) [] 0

      safety : (i : ℕ) → i < length (starts ++ length a.trail.steps ∷ [])
          → IsSafeAt b (get_or (starts ++ length a.trail.steps ∷ []) i 0)
      safety i h = at (cases_lt i (length starts))
        where
          at : (i < length starts) ⊎ (length starts ≤ i) → IsSafeAt b (get_or (starts ++ length a.trail.steps ∷ []) i 0)
          at (inl q) =
              rw (start_old i q, st, sc, sw)
              (safe_pushed (held_in a) a.trail.steps (record { literal = l; reason = 0 }) (pairs_of a)
              (get_or starts i 0) (let x = k.decisions.inside i q in omega arith) (k.levels.safe i q))
          at (inr q) =
              let c = count in
              let e : i ≡ length starts = omega arith in
              rw (e, start_new, st, sc, sw)
              (safe_pushed (held_in a) a.trail.steps (record { literal = l; reason = 0 }) (pairs_of a)
              (length a.trail.steps) (omega arith) k.levels.watching.at_head)

-- the trail is cut at the start of level k + 1, and so are the starts
module _ (a b : State) (starts : List ℕ) (head k : ℕ) (s : IsSearchState a starts head) (lt : k < length starts)
    (sc : b.clauses ≡ a.clauses) (sw : b.watches ≡ a.watches)
    (sz : b.trail.size ≡ a.trail.size) (st : b.trail.steps ≡ take (get_or starts k 0) a.trail.steps) where
  pub cut_search : IsSearchState b (take k starts) (get_or starts k 0)
  cut_search = record {
    state = record {
      trail = rw (st, sc) (trail_cut (held_in a) a.trail.steps (get_or starts k 0) s.state.trail);
      small = rw (sc, sz) s.state.small;
      paired = rw (sc, sw) s.state.paired;
      listed = rw (sw, sz) s.state.listed;
      few = rw sc s.state.few;
    };
    decisions = rw st (starts_cut a.trail.steps starts k s.decisions lt);
    levels = record {
      safe = safety;
      drawn = (let e = len in let f = ap length st in omega arith);
      watching = rw (st, sc, sw)
          (record { at_head = front; listed = s.levels.watching.listed; watches = s.levels.watching.watches });
    };
  }
    where
      inside : get_or starts k 0 < length a.trail.steps
      inside = s.decisions.inside k lt

      len : length (take (get_or starts k 0) a.trail.steps) ≡ get_or starts k 0
      len = let x = inside in grind (arith, common_steps, x)

      count : length (take k starts) ≡ k
      count = grind (arith, common_steps, lt)

      start_old : (i : ℕ) → i < k → get_or (take k starts) i 0 ≡ get_or starts i 0
      start_old i h = get_or-take k starts i 0 h

      cut_safe : (n : ℕ) → n ≤ get_or starts k 0 → IsSafeAt a n
          → WereSafe (held_in a) (take (get_or starts k 0) a.trail.steps) (pairs_of a) n
      cut_safe n h v m c e =
          safe_more (was_set a.trail.steps n) (was_set (take (get_or starts k 0) a.trail.steps) n)
          (was_set a.trail.steps n) (was_set (take (get_or starts k 0) a.trail.steps) n) c (pairs_of a m)
          (λ l x. sym (was_set-take a.trail.steps (get_or starts k 0) n l h) ∙ x)
          (λ l x. was_set-take a.trail.steps (get_or starts k 0) n l h ∙ x) (v m c e)

      safety : (i : ℕ) → i < length (take k starts) → IsSafeAt b (get_or (take k starts) i 0)
      safety i h =
          let c = count in
          let r = s.decisions.rising i k (omega arith) lt in
          rw (start_old i (omega arith), st, sc, sw)
          (cut_safe (get_or starts i 0) (omega arith) (s.levels.safe i (omega arith)))

      front : (m : ℕ) (c : List ℕ) → held_in a (m + 1) ≡ Some (Clause c)
          → Rattle.cdcl.specs.Watch.IsSafe (was_set (take (get_or starts k 0) a.trail.steps) (get_or starts k 0))
          (is_set (take (get_or starts k 0) a.trail.steps)) c (pairs_of a m)
      front m c e =
          let n = inside in
          safe_more (was_set a.trail.steps (get_or starts k 0))
          (was_set (take (get_or starts k 0) a.trail.steps) (get_or starts k 0))
          (was_set a.trail.steps (get_or starts k 0)) (is_set (take (get_or starts k 0) a.trail.steps)) c
          (pairs_of a m)
          (λ l x. sym (was_set-take a.trail.steps (get_or starts k 0) (get_or starts k 0) l (omega arith)) ∙ x)
          (λ l x. is_set-take a.trail.steps (get_or starts k 0) l (omega arith) ∙ x) (s.levels.safe k lt m c e)

-- a decision is not set before
pub unset_literal : (t : TrailValue) (v l : ℕ) → (l ≡ 2 * v) ⊎ (l ≡ 2 * v + 1) → IsUnset t v
    → (is_set t.steps l ≡ false) × (is_set t.steps (opposite l) ≡ false) × (l < t.size)
unset_literal t v l (inl e) u =
    let o : opposite l ≡ 2 * v + 1 = ap opposite e ∙ opposite-even v in
    (rw e u.not_true, rw o u.not_false, (let s = u.small in omega arith))
unset_literal t v l (inr e) u =
    let o : opposite l ≡ 2 * v = ap opposite e ∙ opposite-odd v in
    (rw e u.not_false, rw o u.not_true, (let s = u.small in omega arith))

pub search_at : (s : State) (starts starts' : List ℕ) (head head' : ℕ) → starts ≡ starts' → head ≡ head'
    → IsSearchState s starts head → IsSearchState s starts' head'
search_at s starts starts' head head' e f k =
    subst (λ (n : ℕ). IsSearchState s starts' n) f (subst (λ (x : List ℕ). IsSearchState s x head) e k)

pub decided_free : (t u : TrailValue) (s : Step) → u.steps ≡ t.steps ++ s ∷ [] → is_set t.steps s.literal ≡ false
    → s.literal < t.size → free (is_set u.steps) t.size + 1 ≡ free (is_set t.steps) t.size
decided_free t u s e n h =
    rw e (free_less (is_set t.steps) (is_set (t.steps ++ s ∷ [])) s.literal t.size (all_set_push t.steps s) n h)

pub fewer_free : (a b : TrailValue) → Extends a b → free (is_set b.steps) a.size ≤ free (is_set a.steps) a.size
fewer_free a b e =
    let f : free (is_set b.steps) a.size + length b.steps ≡ free (is_set a.steps) a.size + length a.steps =
    ap (λ (n : ℕ). free (is_set b.steps) n + length b.steps) (sym e.size) ∙ e.fewer in
    let l = e.longer in
    omega arith
