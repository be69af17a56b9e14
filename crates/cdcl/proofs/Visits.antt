-- The watches of one literal, visited one after another.
use Rattle.std.proofs.Common.{◌≡◌, ℕ, suc, ◌+◌, ◌-◌, ◌<◌, ◌≤◌, ◌⊎◌, eqb, Bool, true, false, List, [], ◌∷◌, ◌++◌, length}
use Rattle.std.proofs.Common.{length-set, length-append, get_or, set, refl, arith, ap, sym, subst, ◌∙◌, inl, inr, Some}
use Rattle.std.proofs.lemmas.Grind.{common_steps}
use Rattle.std.proofs.lemmas.Bool.{cases_lt, cases_eq}
use Rattle.std.proofs.lemmas.List.{get_or-set_same, get_or-set_other}
use Rattle.std.proofs.Math.ListN.{get_or-append}
use Rattle.std.proofs.Math.Seq.{get_or-append_seam}
use Rattle.cnf_base.specs.declared.cnf.Entry.TheVariants.{Clause}
use Rattle.cnf_base.specs.Literals.{opposite, member}
use Rattle.lrat_log.specs.Held.{Held}
use Rattle.cdcl.specs.declared.trail.Step.{Step}
use Rattle.cdcl_tables.specs.declared.watches.Watch.{Watch}
use Rattle.cdcl.specs.Trail.{literal_at, was_set, is_set, HasTrue}
use Rattle.cdcl_tables.specs.Nothing.{no_watch}
use Rattle.cdcl.specs.Watch.{Pairs, Lists, IsPairOf, IsSafe, StandsBefore, StandsIn, IsWatch, AreWatches, AreListed}
use Rattle.cdcl.specs.Watch.{WereSafe, IsWatching, IsListed, AreVisited}
use Rattle.cdcl.proofs.Trails.{was_set_below, below_was_set, was_set-push, all_set_push}
use Rattle.cdcl.proofs.Watching.{Which, pair_of, safe_elsewhere, safe_moves, safe_moves_before, safe_more}

pub was_set_grows : (trail : List Step) (m n l : ℕ) → m ≤ n → was_set trail m l ≡ true → was_set trail n l ≡ true
was_set_grows trail m n l h s =
    let b = was_set_below trail m l s in
    below_was_set trail n l (b.0, (let k = b.1 in omega arith), b.2)

front_more : (trail : List Step) (head l : ℕ) → was_set trail (head + 1) l ≡ true
    → (literal_at trail head ≡ l) ⊎ (was_set trail head l ≡ true)
front_more trail head l h =
    at (eqb (literal_at trail head) l) refl
    (ap (λ (n : ℕ). was_set trail n l) (let e : suc head ≡ head + 1 = omega arith in e) ∙ h)
  where
    at : (b : Bool) → eqb (literal_at trail head) l ≡ b → was_set trail (suc head) l ≡ true
        → (literal_at trail head ≡ l) ⊎ (was_set trail head l ≡ true)
    at true e s = inl (grind (arith, common_steps, e))
    at false e s = inr (grind (arith, common_steps, e, s))

-- a list that grows
pub stands_old : (list : List Watch) (w : Watch) (k : ℕ) → StandsIn list k → StandsIn (list ++ w ∷ []) k
stands_old list w k s = (
  s.0,
  (let h = s.1 in let e = length-append list (w ∷ []) in omega arith),
  ap (λ (x : Watch). x.place) (get_or-append list (w ∷ []) no_watch s.0 s.1) ∙ s.2,
)

pub stands_new : (list : List Watch) (w : Watch) → StandsIn (list ++ w ∷ []) w.place
stands_new list w = (
  length list,
  (let e = length-append list (w ∷ []) in omega arith),
  ap (λ (x : Watch). x.place) (get_or-append_seam list w [] no_watch),
)

pub watches_pushed : (held : Held) (pairs : Pairs) (list : List Watch) (w : Watch) → AreWatches held pairs list
    → IsWatch held pairs w → AreWatches held pairs (list ++ w ∷ [])
watches_pushed held pairs list w a i n h = at (cases_lt n (length list))
  where
    at : (n < length list) ⊎ (length list ≤ n) → IsWatch held pairs (get_or (list ++ w ∷ []) n no_watch)
    at (inl k) = rw (get_or-append list (w ∷ []) no_watch n k) (a n k)
    at (inr k) =
        let e = length-append list (w ∷ []) in
        let q : n ≡ length list = omega arith in
        rw (q, get_or-append_seam list w [] no_watch) i

pub watches_none : (held : Held) (pairs : Pairs) → AreWatches held pairs []
watches_none held pairs n h = absurd (omega arith)

-- a list in which one watch is replaced
stands_set : (list : List Watch) (n : ℕ) (w : Watch) (k : ℕ) → n < length list
    → w.place ≡ (get_or list n no_watch).place → StandsIn list k → StandsIn (set list n w) k
stands_set list n w k h e s = at (cases_eq s.0 n)
  where
    lt : s.0 < length (set list n w)
    lt = rw length-set (s.1)

    at : (s.0 ≡ n) ⊎ (s.0 ≡ n → ⊥) → StandsIn (set list n w) k
    at (inl q) = (
      s.0,
      lt,
      ap (λ (i : ℕ). (get_or (set list n w) i no_watch).place) q
          ∙ ap (λ (x : Watch). x.place) (get_or-set_same list n w no_watch h) ∙ e
          ∙ ap (λ (i : ℕ). (get_or list i no_watch).place) (sym q) ∙ s.2,
    )
    at (inr q) = (s.0, lt, ap (λ (x : Watch). x.place) (get_or-set_other list n s.0 w no_watch q) ∙ s.2)

watches_set : (held : Held) (pairs : Pairs) (list : List Watch) (n : ℕ) (w : Watch) → n < length list
    → AreWatches held pairs list → IsWatch held pairs w → AreWatches held pairs (set list n w)
watches_set held pairs list n w h a v i k = at (cases_eq i n)
  where
    lt : i < length list
    lt = rw length-set at k

    at : (i ≡ n) ⊎ (i ≡ n → ⊥) → IsWatch held pairs (get_or (set list n w) i no_watch)
    at (inl q) = rw (q, get_or-set_same list n w no_watch h) v
    at (inr q) = rw (get_or-set_other list n i w no_watch q) (a i lt)

-- a list of which one watch was removed, the last taking its place
pub record IsRemoved (list list' : List Watch) (n : ℕ) : Type 0 where
  pub len : length list' + 1 ≡ length list
  pub moved : n + 1 < length list → get_or list' n no_watch ≡ get_or list (length list - 1) no_watch
  pub kept : (k : ℕ) → k < length list' → (k ≡ n → ⊥) → get_or list' k no_watch ≡ get_or list k no_watch

stands_removed : (list list' : List Watch) (n k : ℕ) → n < length list → IsRemoved list list' n
    → (k ≡ (get_or list n no_watch).place → ⊥) → StandsIn list k → StandsIn list' k
stands_removed list list' n k h r d s = at (cases_eq s.0 n)
  where
    at : (s.0 ≡ n) ⊎ (s.0 ≡ n → ⊥) → StandsIn list' k
    at (inl q) = absurd (d (sym s.2 ∙ ap (λ (i : ℕ). (get_or list i no_watch).place) q))
    at (inr q) = two (cases_lt s.0 (length list'))
      where
        two : (s.0 < length list') ⊎ (length list' ≤ s.0) → StandsIn list' k
        two (inl l) = (s.0, l, ap (λ (x : Watch). x.place) (r.kept s.0 l q) ∙ s.2)
        two (inr l) =
            let a = s.1 in
            let b = r.len in
            let last : s.0 ≡ length list - 1 = omega arith in
            let less : n + 1 < length list = omega arith in (
              n,
              omega arith,
              ap (λ (x : Watch). x.place) (r.moved less)
                  ∙ ap (λ (i : ℕ). (get_or list i no_watch).place) (sym last) ∙ s.2,
            )

watches_removed : (held : Held) (pairs : Pairs) (list list' : List Watch) (n : ℕ) → n < length list
    → IsRemoved list list' n → AreWatches held pairs list → AreWatches held pairs list'
watches_removed held pairs list list' n h r a i k = at (cases_eq i n)
  where
    at : (i ≡ n) ⊎ (i ≡ n → ⊥) → IsWatch held pairs (get_or list' i no_watch)
    at (inr q) = rw (r.kept i k q) (a i (let b = r.len in omega arith))
    at (inl q) =
        let b = r.len in
        let less : n + 1 < length list = omega arith in
        rw (q, r.moved less) (a (length list - 1) (omega arith))

-- the pair of one clause is changed to another pair of it
pub record IsMoved (held : Held) (pairs pairs' : Pairs) (j : ℕ) (c : List ℕ) : Type 0 where
  pub held_as : held (j + 1) ≡ Some (Clause c)
  pub same : (k : ℕ) → (k ≡ j → ⊥) → pairs' k ≡ pairs k
  pub pair : IsPairOf c (pairs' j)

one_clause : (held : Held) (id : ℕ) (c d : List ℕ) → held id ≡ Some (Clause c) → held id ≡ Some (Clause d) → c ≡ d
one_clause held id c d a b = cc

watch_moves : (held : Held) (pairs pairs' : Pairs) (j : ℕ) (c : List ℕ) (w : Watch) → IsMoved held pairs pairs' j c
    → IsWatch held pairs w → IsWatch held pairs' w
watch_moves held pairs pairs' j c w m i =
    record { clause = i.clause; held_as = i.held_as; blocker = i.blocker; pair = at (cases_eq w.place j) }
  where
    at : (w.place ≡ j) ⊎ (w.place ≡ j → ⊥) → IsPairOf i.clause (pairs' w.place)
    at (inr q) = rw (m.same w.place q) i.pair
    at (inl q) =
        let e : i.clause ≡ c =
        one_clause held (j + 1) i.clause c (ap (λ (k : ℕ). held (k + 1)) (sym q) ∙ i.held_as) m.held_as in
        rw (q, e) m.pair

-- the list of f is taken out
pub visits_begin : (held : Held) (trail : List Step) (head : ℕ) (pairs : Pairs) (lists lists' : Lists) (f : ℕ)
    → f ≡ opposite (literal_at trail head) → ((w : ℕ) → (w ≡ f → ⊥) → lists' w ≡ lists w) → lists' f ≡ []
    → IsWatching held trail head pairs lists
    → AreVisited held trail head pairs lists' f (lists f) (length (lists f))
visits_begin held trail head pairs lists lists' f fe o z w = record {
  todo = w.at_head;
  done = λ k c e n. safe_elsewhere (was_set trail head) (was_set trail (head + 1)) (is_set trail)
      (literal_at trail head) (front_more trail head) c (pairs k)
      (λ i. (let l = w.listed k c e i in (
        (λ q. n (subst (λ (x : ℕ). StandsIn (lists x) k) (q ∙ sym fe) l.0)),
        (λ q. n (subst (λ (x : ℕ). StandsIn (lists x) k) (q ∙ sym fe) l.1)),
      )))
      (w.at_head k c e);
  listed = λ k c e i. (let l = w.listed k c e i in (one (pairs k).first k l.0, one (pairs k).second k l.1));
  watches = λ x. all x (cases_eq x f);
  in_list = w.watches f;
}
  where
    one : (x k : ℕ) → StandsIn (lists x) k → IsListed lists' f (lists f) x k
    one x k s = record {
      elsewhere = λ n. subst (λ (l : List Watch). StandsIn l k) (sym (o x n)) s;
      here = λ q. subst (λ (y : ℕ). StandsIn (lists y) k) q s;
    }

    all : (x : ℕ) → (x ≡ f) ⊎ (x ≡ f → ⊥) → AreWatches held pairs (lists' x)
    all x (inl q) = subst (AreWatches held pairs) (sym (ap lists' q ∙ z)) (watches_none held pairs)
    all x (inr q) = subst (AreWatches held pairs) (sym (o x q)) (w.watches x)

-- the list is put back
lists_back : (held : Held) (trail : List Step) (head : ℕ) (pairs : Pairs) (lists lists' : Lists) (f : ℕ)
    (list : List Watch) (n : ℕ)
    → AreVisited held trail head pairs lists f list n → ((w : ℕ) → (w ≡ f → ⊥) → lists' w ≡ lists w) → lists' f ≡ list
    → AreListed held pairs lists' × ((w : ℕ) → AreWatches held pairs (lists' w))
lists_back held trail head pairs lists lists' f list n v o z = (
  (λ k c e i. (let l = v.listed k c e i in (
    one (pairs k).first k l.0 (cases_eq (pairs k).first f),
    one (pairs k).second k l.1 (cases_eq (pairs k).second f),
  ))),
  (λ x. all x (cases_eq x f)),
)
  where
    one : (x k : ℕ) → IsListed lists f list x k → (x ≡ f) ⊎ (x ≡ f → ⊥) → StandsIn (lists' x) k
    one x k l (inl q) = subst (λ (y : List Watch). StandsIn y k) (sym (ap lists' q ∙ z)) (l.here q)
    one x k l (inr q) = subst (λ (y : List Watch). StandsIn y k) (sym (o x q)) (l.elsewhere q)

    all : (x : ℕ) → (x ≡ f) ⊎ (x ≡ f → ⊥) → AreWatches held pairs (lists' x)
    all x (inl q) = subst (AreWatches held pairs) (sym (ap lists' q ∙ z)) v.in_list
    all x (inr q) = subst (AreWatches held pairs) (sym (o x q)) (v.watches x)

-- all are visited: the front goes past the literal
pub visits_end : (held : Held) (trail : List Step) (head : ℕ) (pairs : Pairs) (lists lists' : Lists) (f : ℕ)
    (list : List Watch)
    → AreVisited held trail head pairs lists f list 0 → ((w : ℕ) → (w ≡ f → ⊥) → lists' w ≡ lists w) → lists' f ≡ list
    → IsWatching held trail (head + 1) pairs lists'
visits_end held trail head pairs lists lists' f list v o z =
    let b = lists_back held trail head pairs lists lists' f list 0 v o z in
    record {
      at_head = λ k c e. v.done k c e (λ s. (let h = s.1 in omega arith));
      listed = b.0;
      watches = b.1;
    }

-- a conflict: the front stays
pub visits_stop : (held : Held) (trail : List Step) (head : ℕ) (pairs : Pairs) (lists lists' : Lists) (f : ℕ)
    (list : List Watch) (n : ℕ)
    → AreVisited held trail head pairs lists f list n → ((w : ℕ) → (w ≡ f → ⊥) → lists' w ≡ lists w) → lists' f ≡ list
    → IsWatching held trail head pairs lists'
visits_stop held trail head pairs lists lists' f list n v o z =
    let b = lists_back held trail head pairs lists lists' f list n v o z in
    record {
      at_head = v.todo;
      listed = b.0;
      watches = b.1;
    }

-- what stands before n + 1, but for one clause, stands before n
before_less : (list list' : List Watch) (n k : ℕ) → ((i : ℕ) → i < n → get_or list' i no_watch ≡ get_or list i no_watch)
    → (k ≡ (get_or list n no_watch).place → ⊥) → (StandsBefore list' n k → ⊥) → StandsBefore list (n + 1) k → ⊥
before_less list list' n k same d gone s = at (cases_eq s.0 n)
  where
    at : (s.0 ≡ n) ⊎ (s.0 ≡ n → ⊥) → ⊥
    at (inl q) = d (sym s.2 ∙ ap (λ (i : ℕ). (get_or list i no_watch).place) q)
    at (inr q) =
        let h = s.1 in
        let lt : s.0 < n = omega arith in
        gone (s.0, lt, ap (λ (x : Watch). x.place) (same s.0 lt) ∙ s.2)

-- a visited clause has a true literal
pub visit_kept : (held : Held) (trail : List Step) (head : ℕ) (pairs : Pairs) (lists : Lists) (f : ℕ)
    (list : List Watch) (n : ℕ) (w : Watch) (c : List ℕ)
    → n < length list → w.place ≡ (get_or list n no_watch).place → held (w.place + 1) ≡ Some (Clause c)
    → member w.blocker c ≡ true
    → HasTrue (is_set trail) c
    → AreVisited held trail head pairs lists f list (n + 1) → AreVisited held trail head pairs lists f (set list n w) n
visit_kept held trail head pairs lists f list n w c h pe he bl t v = record {
  todo = v.todo;
  done = λ k d e gone. one k d e gone (cases_eq k w.place);
  listed = λ k d e i. (let l = v.listed k d e i in (still (pairs k).first k l.0, still (pairs k).second k l.1));
  watches = v.watches;
  in_list = watches_set held pairs list n w h v.in_list (record {
    clause = c;
    held_as = he;
    blocker = bl;
    pair =
        let i = v.in_list n h in
        let same : i.clause ≡ c =
        one_clause held (w.place + 1) i.clause c (ap (λ (k : ℕ). held (k + 1)) pe ∙ i.held_as) he in
        rw (pe, ← same) i.pair;
  });
}
  where
    one : (k : ℕ) (d : List ℕ) → held (k + 1) ≡ Some (Clause d) → (StandsBefore (set list n w) n k → ⊥)
        → (k ≡ w.place) ⊎ (k ≡ w.place → ⊥)
        → IsSafe (was_set trail (head + 1)) (is_set trail) d (pairs k)
    one k d e gone (inl q) =
        let same : c ≡ d = one_clause held (k + 1) c d (ap (λ (x : ℕ). held (x + 1)) q ∙ he) e in
        inr (rw (← same) t)
    one k d e gone (inr q) =
        v.done k d e
        (before_less list (set list n w) n k
        (λ i g. get_or-set_other list n i w no_watch (λ z. (let y = z in omega arith)))
        (λ z. q (z ∙ sym pe)) gone)

    still : (x k : ℕ) → IsListed lists f list x k → IsListed lists f (set list n w) x k
    still x k l = record { elsewhere = l.elsewhere; here = λ q. stands_set list n w k h pe (l.here q) }

-- a visited clause watches another literal
pub visit_moved : (held : Held) (trail : List Step) (head : ℕ) (pairs pairs' : Pairs) (lists lists' : Lists) (f : ℕ)
    (list list' : List Watch) (n : ℕ) (c : List ℕ) (j l other : ℕ) (w : Watch)
    → n < length list → j ≡ (get_or list n no_watch).place → head < length trail → f ≡ opposite (literal_at trail head)
    → held (j + 1) ≡ Some (Clause c) → IsPairOf c (pair_of l other) → Which (pairs j) other
    → is_set trail (opposite l) ≡ false → (l ≡ f → ⊥) → (other ≡ f → ⊥)
    → ((k : ℕ) → (k ≡ j → ⊥) → pairs' k ≡ pairs k) → pairs' j ≡ pair_of l other
    → ((x : ℕ) → (x ≡ l → ⊥) → lists' x ≡ lists x) → lists' l ≡ lists l ++ w ∷ [] → w.place ≡ j
    → member w.blocker c ≡ true
    → IsRemoved list list' n
    → AreVisited held trail head pairs lists f list (n + 1) → AreVisited held trail head pairs' lists' f list' n
visit_moved held trail head pairs pairs' lists lists' f list list' n c j l other w h pe hd fe he i o u lf of same new ol
    nl wp wb r v = record {
      todo = λ k d e. moved_safe (was_set trail head) (is_set trail) k d e (cases_eq k j) (unset head (omega arith))
          (v.todo k d e);
      done = λ k d e gone. finished k d e gone (cases_eq k j);
      listed = λ k d e p. all_listed k d e p (cases_eq k j);
      watches = λ x. all x (cases_eq x l);
      in_list = λ q g. watch_moves held pairs pairs' j c (get_or list' q no_watch) moves
          (watches_removed held pairs list list' n h r v.in_list q g);
    }
  where
    moves : IsMoved held pairs pairs' j c
    moves = record { held_as = he; same = same; pair = rw new i }

    unset : (s : ℕ) → s ≤ length trail → was_set trail s (opposite l) ≡ false
    unset s g = gone (was_set trail s (opposite l)) refl
      where
        gone : (b : Bool) → was_set trail s (opposite l) ≡ b → b ≡ false
        gone false e = refl
        gone true e = let k = was_set_grows trail s (length trail) (opposite l) g e in absurd (cc)

    moved_safe : (front now : ℕ → Bool) (k : ℕ) (d : List ℕ) → held (k + 1) ≡ Some (Clause d) → (k ≡ j) ⊎ (k ≡ j → ⊥)
        → front (opposite l) ≡ false
        → IsSafe front now d (pairs k) → IsSafe front now d (pairs' k)
    moved_safe front now k d e (inr q) g s = rw (same k q) s
    moved_safe front now k d e (inl q) g s =
        let cd : c ≡ d = one_clause held (k + 1) c d (ap (λ (x : ℕ). held (x + 1)) q ∙ he) e in
        rw (q, new, ← cd) (safe_moves_before front now c (pairs j) l other i o g (rw (← q, cd) s))

    finished : (k : ℕ) (d : List ℕ) → held (k + 1) ≡ Some (Clause d) → (StandsBefore list' n k → ⊥)
        → (k ≡ j) ⊎ (k ≡ j → ⊥)
        → IsSafe (was_set trail (head + 1)) (is_set trail) d (pairs' k)
    finished k d e gone (inr q) = rw (same k q) (v.done k d e (before_less list list' n k
        (λ y g. r.kept y (let b = r.len in omega arith) (λ z. (let x = z in omega arith)))
        (λ z. q (z ∙ sym pe)) gone))
    finished k d e gone (inl q) =
        let cd : c ≡ d = one_clause held (k + 1) c d (ap (λ (x : ℕ). held (x + 1)) q ∙ he) e in
        rw (q, new, ← cd)
        (safe_moves (was_set trail head) (was_set trail (head + 1)) (is_set trail) (literal_at trail head)
        (front_more trail head)
        c (pairs j) l other i o u (λ z. of (z ∙ sym fe))
        (λ x s. was_set_grows trail (head + 1) (length trail) x (omega arith) s) (v.todo j c he))

    grown : (x k : ℕ) → StandsIn (lists x) k → StandsIn (lists' x) k
    grown x k s = at (cases_eq x l)
      where
        at : (x ≡ l) ⊎ (x ≡ l → ⊥) → StandsIn (lists' x) k
        at (inr q) = subst (λ (y : List Watch). StandsIn y k) (sym (ol x q)) s
        at (inl q) =
            subst (λ (y : List Watch). StandsIn y k) (sym (ap lists' q ∙ nl))
            (stands_old (lists l) w k (subst (λ (y : ℕ). StandsIn (lists y) k) q s))

    old_listed : (x k : ℕ) → (k ≡ j → ⊥) → IsListed lists f list x k → IsListed lists' f list' x k
    old_listed x k q z = record {
      elsewhere = λ gone. grown x k (z.elsewhere gone);
      here = λ yes. stands_removed list list' n k h r (λ y. q (y ∙ sym pe)) (z.here yes);
    }

    new_listed : (x k : ℕ) → (x ≡ f → ⊥) → StandsIn (lists' x) k → IsListed lists' f list' x k
    new_listed x k q s = record { elsewhere = λ gone. s; here = λ yes. absurd (q yes) }

    in_new : StandsIn (lists' l) j
    in_new = subst (λ (y : List Watch). StandsIn y j) (sym nl)
        (subst (λ (k : ℕ). StandsIn (lists l ++ w ∷ []) k) wp (stands_new (lists l) w))

    in_other : StandsIn (lists other) j
    in_other =
        let k = v.in_list n h in
        let cd : k.clause ≡ c = one_clause held (j + 1) k.clause c (ap (λ (x : ℕ). held (x + 1)) pe ∙ k.held_as) he in
        let p : IsPairOf c (pairs j) = rw (pe, ← cd) k.pair in
        at (v.listed j c he p) o
      where
        at : IsListed lists f list (pairs j).first j × IsListed lists f list (pairs j).second j → Which (pairs j) other
            → StandsIn (lists other) j
        at z (inl q) = subst (λ (x : ℕ). StandsIn (lists x) j) (sym q) (z.0.elsewhere (λ y. of (q ∙ y)))
        at z (inr q) = subst (λ (x : ℕ). StandsIn (lists x) j) (sym q) (z.1.elsewhere (λ y. of (q ∙ y)))

    all_listed : (k : ℕ) (d : List ℕ) → held (k + 1) ≡ Some (Clause d) → IsPairOf d (pairs' k) → (k ≡ j) ⊎ (k ≡ j → ⊥)
        → IsListed lists' f list' (pairs' k).first k × IsListed lists' f list' (pairs' k).second k
    all_listed k d e p (inr q) =
        let z = v.listed k d e (rw (same k q) at p) in
        rw (same k q) (old_listed (pairs k).first k q z.0, old_listed (pairs k).second k q z.1)
    all_listed k d e p (inl q) = rw (q, new) (new_listed l j lf in_new, new_listed other j of (grown other j in_other))

    all : (x : ℕ) → (x ≡ l) ⊎ (x ≡ l → ⊥) → AreWatches held pairs' (lists' x)
    all x (inr q) =
        subst (AreWatches held pairs') (sym (ol x q))
        (λ y g. watch_moves held pairs pairs' j c (get_or (lists x) y no_watch) moves (v.watches x y g))
    all x (inl q) =
        rw (q, nl) (watches_pushed held pairs' (lists l) w
        (λ y g. watch_moves held pairs pairs' j c (get_or (lists l) y no_watch) moves (v.watches l y g))
        (record { clause = c; held_as = rw wp he; blocker = wb; pair = rw (wp, new) i }))

-- one more literal is set
pub visit_set : (held : Held) (trail : List Step) (s : Step) (head : ℕ) (pairs : Pairs) (lists : Lists) (f : ℕ)
    (list : List Watch) (n : ℕ)
    → head < length trail
    → AreVisited held trail head pairs lists f list n → AreVisited held (trail ++ s ∷ []) head pairs lists f list n
visit_set held trail s head pairs lists f list n h v = record {
  todo = λ k c e. safe_more (was_set trail head) (was_set (trail ++ s ∷ []) head) (is_set trail)
      (is_set (trail ++ s ∷ [])) c (pairs k) (same head (omega arith)) more (v.todo k c e);
  done = λ k c e gone. safe_more (was_set trail (head + 1)) (was_set (trail ++ s ∷ []) (head + 1)) (is_set trail)
      (is_set (trail ++ s ∷ [])) c (pairs k) (same (head + 1) (omega arith)) more (v.done k c e gone);
  listed = v.listed;
  watches = v.watches;
  in_list = v.in_list;
}
  where
    same : (m : ℕ) → m ≤ length trail → (l : ℕ) → was_set (trail ++ s ∷ []) m l ≡ true → was_set trail m l ≡ true
    same m g l t = sym (was_set-push trail s m l g) ∙ t

    back : (m : ℕ) → m ≤ length trail → (l : ℕ) → was_set trail m l ≡ true → was_set (trail ++ s ∷ []) m l ≡ true
    back m g l t = was_set-push trail s m l g ∙ t

    more : (l : ℕ) → is_set trail l ≡ true → is_set (trail ++ s ∷ []) l ≡ true
    more l t = let e = all_set_push trail s l in grind (arith, common_steps, e, t)

-- at a start, where no clause was false or unit, none is after a clause watches another literal
pub start_moved : (held : Held) (trail : List Step) (s : ℕ) (pairs pairs' : Pairs) (c : List ℕ) (j l other : ℕ)
    → s ≤ length trail
    → held (j + 1) ≡ Some (Clause c) → IsPairOf c (pair_of l other) → Which (pairs j) other
    → is_set trail (opposite l) ≡ false
    → ((k : ℕ) → (k ≡ j → ⊥) → pairs' k ≡ pairs k) → pairs' j ≡ pair_of l other → WereSafe held trail pairs s
    → WereSafe held trail pairs' s
start_moved held trail s pairs pairs' c j l other h he i o u same new v k d e = at (cases_eq k j)
  where
    unset : was_set trail s (opposite l) ≡ false
    unset = cases (was_set trail s (opposite l)) refl
      where
        cases : (b : Bool) → was_set trail s (opposite l) ≡ b → b ≡ false
        cases false e = refl
        cases true e = let k = was_set_grows trail s (length trail) (opposite l) h e in absurd (cc)

    at : (k ≡ j) ⊎ (k ≡ j → ⊥) → IsSafe (was_set trail s) (was_set trail s) d (pairs' k)
    at (inr q) = rw (same k q) (v k d e)
    at (inl q) =
        let cd : c ≡ d = one_clause held (k + 1) c d (ap (λ (x : ℕ). held (x + 1)) q ∙ he) e in
        rw (q, new, ← cd)
        (safe_moves_before (was_set trail s) (was_set trail s) c (pairs j) l other i o unset
        (rw (← q, cd) (v k d e)))

-- a start below the end of the trail, where the trail grows
pub start_grown : (held : Held) (trail trail' : List Step) (s : ℕ) (pairs : Pairs)
    → ((l : ℕ) → was_set trail' s l ≡ was_set trail s l)
    → WereSafe held trail pairs s → WereSafe held trail' pairs s
start_grown held trail trail' s pairs e v k c h =
    safe_more (was_set trail s) (was_set trail' s) (was_set trail s) (was_set trail' s) c (pairs k)
    (λ l t. sym (e l) ∙ t) (λ l t. e l ∙ t) (v k c h)
