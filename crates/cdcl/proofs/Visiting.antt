-- One visit of a clause, case by case.
use Rattle.std.proofs.Common.{◌≡◌, ℕ, ◌+◌, ◌<◌, ◌⊎◌, true, false, List, [], ◌∷◌, ◌++◌, length, get_or, set, refl, arith}
use Rattle.std.proofs.Common.{ap, sym, subst, ◌∙◌, inl, inr, Some}
use Rattle.std.proofs.lemmas.Grind.{common_steps}
use Rattle.std.proofs.lemmas.List.{get_or-set_same, get_or-set_other, set-get_or, length-set}
use Rattle.cnf_base.specs.declared.cnf.Entry.TheVariants.{Clause}
use Rattle.cnf_base.specs.Literals.{opposite, member}
use Rattle.cdcl.specs.declared.trail.Step.{Step}
use Rattle.cdcl_tables.specs.declared.watches.Pair.{Pair}
use Rattle.cdcl_tables.specs.declared.watches.Watch.{Watch}
use Rattle.cdcl_tables.specs.declared.watches.Watches.{Watches}
use Rattle.cdcl.specs.declared.state.State.{State}
use Rattle.cdcl.specs.TrailValue.{TrailValue}
use Rattle.cdcl.specs.Trail.{literal_at, MayPush, IsConflict, is_set}
use Rattle.cdcl.specs.Growth.{Extends}
use Rattle.cdcl_tables.specs.Nothing.{no_watch, no_pair}
use Rattle.cdcl.specs.Watch.{pair_at, list_at, IsPairOf, IsWatch, AreVisited}
use Rattle.cdcl.specs.Visit.{AreFalseBut, IsOpen}
use Rattle.cdcl.specs.State.{held_in, pairs_of, lists_of, IsState, Grows, IsVisiting, IsWatchingAt}
use Rattle.cdcl.proofs.Literals.{opposite-opposite}
use Rattle.cdcl.proofs.Members.{member_all}
use Rattle.cdcl.proofs.Entries.{held_place}
use Rattle.cdcl.proofs.Trails.{below_was_set, was_set_below, all_set_push, trail_push, literal-push}
use Rattle.cdcl.proofs.Watching.{Which, pair_of}
use Rattle.cdcl.proofs.Visits.{visit_kept, visit_moved, visit_set, visits_begin, visits_end, visits_stop, start_moved}
use Rattle.cdcl.proofs.Visits.{start_grown, IsRemoved}
use Rattle.cdcl.proofs.Growth.{extends_refl, extends_push, was_set-extends}

-- what is known where the watch at index i is visited: its pair is p, f is false, and other is the other literal of p
pub record IsVisit (s : State) (head : ℕ) (list : List Watch) (i : ℕ) (w : Watch) (p : Pair) (f other : ℕ) : Type 0
  where
    pub state : IsState s
    pub visiting : IsVisiting s head list (i + 1)
    pub index : i < length list
    pub watch : w ≡ get_or list i no_watch
    pub paired : p ≡ get_or s.watches.pairs.items w.place no_pair
    pub false_one : f ≡ opposite (literal_at s.trail.steps head)
    pub which : Which p other
    pub different : (p.first ≡ p.second → ⊥) → other ≡ f → ⊥

pub the_watch : (s : State) (head : ℕ) (list : List Watch) (i : ℕ) (w : Watch) → IsVisiting s head list (i + 1)
    → i < length list → w ≡ get_or list i no_watch
    → IsWatch (held_in s) (pairs_of s) w
the_watch s head list i w v h e = rw e (v.visited.in_list i h)

pub blocker_small : (s : State) (head : ℕ) (list : List Watch) (i : ℕ) (w : Watch) → IsState s
    → IsVisiting s head list (i + 1) → i < length list → w ≡ get_or list i no_watch
    → w.blocker < s.trail.size
blocker_small s head list i w t v h e =
    let k = the_watch s head list i w v h e in
    (member_all s.trail.size k.clause w.blocker (t.small (w.place + 1) k.clause k.held_as) k.blocker).0

-- the blocker is true
pub blocker_true : (s : State) (head : ℕ) (list : List Watch) (i : ℕ) (w : Watch) → IsVisiting s head list (i + 1)
    → i < length list → w ≡ get_or list i no_watch
    → is_set s.trail.steps w.blocker ≡ true → IsVisiting s head list i
blocker_true s head list i w v h e t =
    let k = the_watch s head list i w v h e in
    let same : set list i w ≡ list = ap (set list i) e ∙ set-get_or list i no_watch in
    record {
      within = v.within;
      visited = subst (λ (l : List Watch). AreVisited (held_in s) s.trail.steps head (pairs_of s) (lists_of s)
          (opposite (literal_at s.trail.steps head)) l i) same
          (visit_kept (held_in s) s.trail.steps head (pairs_of s) (lists_of s)
          (opposite (literal_at s.trail.steps head)) list i w k.clause h (ap (λ (x : Watch). x.place) e)
          k.held_as k.blocker (w.blocker, k.blocker, t) v.visited);
    }

module _ (s : State) (head : ℕ) (list : List Watch) (i : ℕ) (w : Watch) (p : Pair) (f other : ℕ)
    (v : IsVisit s head list i w p f other) where
  watched : IsWatch (held_in s) (pairs_of s) w
  watched = the_watch s head list i w v.visiting v.index v.watch

  pair_here : IsPairOf watched.clause p
  unfolding watched
  pair_here = rw v.paired watched.pair

  stands : member other watched.clause ≡ true
  unfolding watched
  stands = at v.which
    where
      at : Which p other → member other watched.clause ≡ true
      at (inl e) = ap (λ (x : ℕ). member x watched.clause) e ∙ pair_here.first_stands
      at (inr e) = ap (λ (x : ℕ). member x watched.clause) e ∙ pair_here.second_stands

  -- the other literal and its opposite have values
  pub other_small : (other < s.trail.size) × (opposite other < s.trail.size)
  other_small =
      member_all s.trail.size watched.clause other (v.state.small (w.place + 1) watched.clause watched.held_as) stands

  -- the other literal is true
  pub other_true : is_set s.trail.steps other ≡ true
      → IsVisiting s head (set list i (record { place = w.place; blocker = other })) i
  other_true t = record {
    within = v.visiting.within;
    visited = visit_kept (held_in s) s.trail.steps head (pairs_of s) (lists_of s)
        (opposite (literal_at s.trail.steps head)) list i (record { place = w.place; blocker = other }) watched.clause
        v.index (ap (λ (x : Watch). x.place) v.watch) watched.held_as stands (other, stands, t) v.visiting.visited;
  }

  head_set : is_set s.trail.steps (opposite f) ≡ true
  head_set =
      let e : literal_at s.trail.steps head ≡ opposite f =
      sym (ap opposite v.false_one ∙ opposite-opposite (literal_at s.trail.steps head)) in
      below_was_set s.trail.steps (length s.trail.steps) (opposite f) (head, v.visiting.within, e)

  -- all literals but the other are false
  pub others_false : (c : List ℕ) → AreFalseBut (is_set s.trail.steps) c f other → (x : ℕ) → member x c ≡ true
      → (x ≡ other) ⊎ (is_set s.trail.steps (opposite x) ≡ true)
  others_false c a x m = at (a x m)
    where
      at : (x ≡ f) ⊎ (x ≡ other) ⊎ (is_set s.trail.steps (opposite x) ≡ true)
          → (x ≡ other) ⊎ (is_set s.trail.steps (opposite x) ≡ true)
      at (inl e) = inr (ap (λ (y : ℕ). is_set s.trail.steps (opposite y)) e ∙ head_set)
      at (inr (inl e)) = inl e
      at (inr (inr e)) = inr e

  -- and the other is false too
  pub is_conflict : (c : List ℕ) → held_in s (w.place + 1) ≡ Some (Clause c)
      → AreFalseBut (is_set s.trail.steps) c f other → is_set s.trail.steps (opposite other) ≡ true
      → IsConflict (held_in s) s.trail.steps (w.place + 1)
  is_conflict c he a t =
      record {
        clause = c;
        held_as = he;
        all_false =
            λ x m. was_set_below s.trail.steps (length s.trail.steps) (opposite x) (at x (others_false c a x m));
      }
    where
      at : (x : ℕ) → (x ≡ other) ⊎ (is_set s.trail.steps (opposite x) ≡ true) → is_set s.trail.steps (opposite x) ≡ true
      at x (inl e) = ap (λ (y : ℕ). is_set s.trail.steps (opposite y)) e ∙ t
      at x (inr e) = e

  other_in : (c : List ℕ) → held_in s (w.place + 1) ≡ Some (Clause c) → member other c ≡ true
  other_in c he = let e : watched.clause ≡ c = same (sym watched.held_as ∙ he) in ap (member other) (sym e) ∙ stands
    where
      same : {x y : List ℕ} → Some (Clause x) ≡ Some (Clause y) → x ≡ y
      same e = cc

  pub open_small : (c : List ℕ) (l : ℕ) → held_in s (w.place + 1) ≡ Some (Clause c)
      → IsOpen (is_set s.trail.steps) c f other l → l < length s.watches.lists.items
  open_small c l he o = let a = (member_all s.trail.size c l (v.state.small (w.place + 1) c he) o.stands).0 in
      let b = v.state.listed in omega arith

  -- another literal l is watched in the place of f
  module _ (c : List ℕ) (l : ℕ) (ws : Watches) (he : held_in s (w.place + 1) ≡ Some (Clause c))
      (o : IsOpen (is_set s.trail.steps) c f other l)
      (ep : ws.pairs.items ≡ set s.watches.pairs.items w.place (pair_of l other))
      (el : ws.lists.items ≡ set s.watches.lists.items l
      (get_or s.watches.lists.items l [] ++ record { place = w.place; blocker = other } ∷ [])) where
    pair_moved : IsPairOf c (pair_of l other)
    pair_moved = record { different = o.not_second; first_stands = o.stands; second_stands = other_in c he }

    place_small : w.place < length s.watches.pairs.items
    place_small = let a = held_place s.clauses w.place (Clause c) he in let b = v.state.paired in omega arith

    l_small : l < length s.watches.lists.items
    l_small = open_small c l he o

    same_pairs : (k : ℕ) → (k ≡ w.place → ⊥) → pair_at ws.pairs.items k ≡ pairs_of s k
    same_pairs k n =
        ap (λ (x : List Pair). get_or x k no_pair) ep
        ∙ get_or-set_other s.watches.pairs.items w.place k (pair_of l other) no_pair n

    new_pair : pair_at ws.pairs.items w.place ≡ pair_of l other
    new_pair = ap (λ (x : List Pair). get_or x w.place no_pair) ep
        ∙ get_or-set_same s.watches.pairs.items w.place (pair_of l other) no_pair place_small

    same_lists : (x : ℕ) → (x ≡ l → ⊥) → list_at ws.lists.items x ≡ lists_of s x
    same_lists x n =
        ap (λ (y : List (List Watch)). get_or y x []) el ∙ get_or-set_other s.watches.lists.items l x _ [] n

    new_list : list_at ws.lists.items l ≡ lists_of s l ++ record { place = w.place; blocker = other } ∷ []
    new_list = ap (λ (y : List (List Watch)). get_or y l []) el ∙ get_or-set_same s.watches.lists.items l _ [] l_small

    which_of : Which (pairs_of s w.place) other
    which_of = subst (λ (q : Pair). Which q other) v.paired v.which

    pub moved_grows : Grows s (record { clauses = s.clauses; trail = s.trail; watches = ws })
    moved_grows = record {
      clauses = refl;
      extends = extends_refl s.trail;
      safe = λ n h a. start_moved (held_in s) s.trail.steps n (pairs_of s) (pair_at ws.pairs.items) c w.place l other h
          he pair_moved which_of o.not_false same_pairs new_pair a;
    }

    other_not : other ≡ f → ⊥
    other_not = v.different pair_here.different

    pub moved_visited : (list' : List Watch) → IsRemoved list list' i
        → IsVisiting (record { clauses = s.clauses; trail = s.trail; watches = ws }) head list' i
    moved_visited list' r = record {
      within = v.visiting.within;
      visited = visit_moved (held_in s) s.trail.steps head (pairs_of s) (pair_at ws.pairs.items) (lists_of s)
          (list_at ws.lists.items) (opposite (literal_at s.trail.steps head)) list list' i c w.place l other
          (record { place = w.place; blocker = other }) v.index (ap (λ (x : Watch). x.place) v.watch) v.visiting.within
          refl he pair_moved which_of o.not_false
          (λ q. o.not_first (q ∙ sym v.false_one)) (λ q. other_not (q ∙ sym v.false_one)) same_pairs new_pair same_lists
          new_list refl (other_in c he) r v.visiting.visited;
    }

  -- the other literal is set
  module _ (c : List ℕ) (t : TrailValue) (he : held_in s (w.place + 1) ≡ Some (Clause c))
      (a : AreFalseBut (is_set s.trail.steps) c f other)
      (nt : is_set s.trail.steps other ≡ false) (nf : is_set s.trail.steps (opposite other) ≡ false)
      (es : t.steps ≡ s.trail.steps ++ record { literal = other; reason = w.place + 1 } ∷ [])
      (ez : t.size ≡ s.trail.size) where
    forced : Step
    forced = record { literal = other; reason = w.place + 1 }

    may_push : MayPush (held_in s) s.trail.steps (record { literal = other; reason = w.place + 1 })
    may_push = record { not_true = nt; not_false = nf; because = inr (c, he, other_in c he, others_false c a) }

    pub pushed_state : IsState (record { clauses = s.clauses; trail = t; watches = s.watches })
    pushed_state = record {
      trail = rw es
          (trail_push (held_in s) s.trail.steps (record { literal = other; reason = w.place + 1 }) v.state.trail
          may_push);
      small = λ id d h. rw ez (v.state.small id d h);
      paired = v.state.paired;
      listed = v.state.listed ∙ sym ez;
      few = v.state.few;
    }

    extended : Extends s.trail t
    extended = extends_push s.trail t (record { literal = other; reason = w.place + 1 }) ez es nt other_small.0
        (λ q. (let z = q in omega arith))

    pub pushed_grows : Grows s (record { clauses = s.clauses; trail = t; watches = s.watches })
    pushed_grows = record {
      clauses = refl;
      extends = extended;
      safe = λ n h b. start_grown (held_in s) s.trail.steps t.steps n (pairs_of s)
          (λ x. was_set-extends s.trail t n x extended h) b;
    }

    pub pushed_visited : IsVisiting (record { clauses = s.clauses; trail = t; watches = s.watches }) head
        (set list i (record { place = w.place; blocker = other })) i
    pushed_visited =
        let step : Step = record { literal = other; reason = w.place + 1 } in
        let h = v.visiting.within in
        let same : literal_at (s.trail.steps ++ step ∷ []) head ≡ literal_at s.trail.steps head =
        literal-push s.trail.steps step head h in
        let on : is_set (s.trail.steps ++ step ∷ []) other ≡ true =
        (let e = all_set_push s.trail.steps step other in grind (arith, common_steps, e)) in
        let grown =
        visit_set (held_in s) s.trail.steps step head (pairs_of s) (lists_of s)
        (opposite (literal_at s.trail.steps head)) list (i + 1) h v.visiting.visited in
        record {
          within = (let x = extended.longer in omega arith);
          visited = rw (es, same) (visit_kept (held_in s) (s.trail.steps ++ step ∷ []) head (pairs_of s) (lists_of s)
              (opposite (literal_at s.trail.steps head)) list i (record { place = w.place; blocker = other })
              watched.clause
              v.index (ap (λ (x : Watch). x.place) v.watch) watched.held_as stands (other, stands, on) grown);
        }

-- the lists alone are changed
pub relisted_grows : (s : State) (ws : Watches) → ws.pairs.items ≡ s.watches.pairs.items
    → Grows s (record { clauses = s.clauses; trail = s.trail; watches = ws })
relisted_grows s ws e = record { clauses = refl; extends = extends_refl s.trail; safe = λ n h a. rw e a }

pub relisted_state : (s : State) (ws : Watches) (f : ℕ) (list : List Watch) → ws.pairs.items ≡ s.watches.pairs.items
    → ws.lists.items ≡ set s.watches.lists.items f list
    → IsState s → IsState (record { clauses = s.clauses; trail = s.trail; watches = ws })
relisted_state s ws f list e l i = record {
  trail = i.trail;
  small = i.small;
  paired = ap length e ∙ i.paired;
  listed = rw (l, length-set) i.listed;
  few = i.few;
}

-- the list of the literal that became false at head is taken out
pub taken : (s : State) (head : ℕ) (ws : Watches) (f : ℕ) (list : List Watch) → head < length s.trail.steps
    → f ≡ opposite (literal_at s.trail.steps head) → IsWatchingAt s head
    → f < length s.watches.lists.items → ws.pairs.items ≡ s.watches.pairs.items
    → ws.lists.items ≡ set s.watches.lists.items f [] → list ≡ get_or s.watches.lists.items f []
    → IsVisiting (record { clauses = s.clauses; trail = s.trail; watches = ws }) head list (length list)
taken s head ws f list h fe w fs e l le = record {
  within = h;
  visited = rw (e, le, fe)
      (visits_begin (held_in s) s.trail.steps head (pairs_of s) (lists_of s) (list_at ws.lists.items)
      (opposite (literal_at s.trail.steps head)) refl
      (λ x n. ap (λ (y : List (List Watch)). get_or y x []) l
      ∙ get_or-set_other s.watches.lists.items f x [] [] (λ q. n (q ∙ fe)))
      (ap (λ (y : ℕ). list_at ws.lists.items y) (sym fe) ∙ ap (λ (y : List (List Watch)). get_or y f []) l
      ∙ get_or-set_same s.watches.lists.items f [] [] fs) w);
}

module _ (s : State) (head : ℕ) (ws : Watches) (f : ℕ) (list : List Watch)
    (fe : f ≡ opposite (literal_at s.trail.steps head))
    (fs : f < length s.watches.lists.items) (e : ws.pairs.items ≡ s.watches.pairs.items)
    (l : ws.lists.items ≡ set s.watches.lists.items f list) where
  others_stay : (x : ℕ) → (x ≡ opposite (literal_at s.trail.steps head) → ⊥) → list_at ws.lists.items x ≡ lists_of s x
  others_stay x n =
      ap (λ (y : List (List Watch)). get_or y x []) l
      ∙ get_or-set_other s.watches.lists.items f x list [] (λ q. n (q ∙ fe))

  put_here : list_at ws.lists.items (opposite (literal_at s.trail.steps head)) ≡ list
  put_here = ap (λ (y : ℕ). list_at ws.lists.items y) (sym fe) ∙ ap (λ (y : List (List Watch)). get_or y f []) l
      ∙ get_or-set_same s.watches.lists.items f list [] fs

  -- all of it was visited
  pub put_back : IsVisiting s head list 0
      → IsWatchingAt (record { clauses = s.clauses; trail = s.trail; watches = ws }) (head + 1)
  put_back v =
      rw e (visits_end (held_in s) s.trail.steps head (pairs_of s) (lists_of s) (list_at ws.lists.items)
      (opposite (literal_at s.trail.steps head)) list v.visited others_stay put_here)

  -- some of it was
  pub put_back_early : (n : ℕ) → IsVisiting s head list n
      → IsWatchingAt (record { clauses = s.clauses; trail = s.trail; watches = ws }) head
  put_back_early n v =
      rw e (visits_stop (held_in s) s.trail.steps head (pairs_of s) (lists_of s) (list_at ws.lists.items)
      (opposite (literal_at s.trail.steps head)) list n v.visited others_stay put_here)

-- the literal at head stays the same
pub same_head : (a b : State) (head : ℕ) → Grows a b → head < length a.trail.steps
    → literal_at b.trail.steps head ≡ literal_at a.trail.steps head
same_head a b head g h = ap (λ (x : Step). x.literal) (g.extends.same head h)
