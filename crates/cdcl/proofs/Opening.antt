-- Where nothing was false or unit when the top level began, a literal of the top level is learnt.
use Rattle.std.proofs.Common.{min, ◌≡◌, ℕ, ◌+◌, ◌<◌, ◌≤◌, ◌⊎◌, ◌||◌, ◌&&◌, not, eqb, Bool, true, false, List, [], ◌∷◌}
use Rattle.std.proofs.Common.{length, get_or, refl, arith, ap, sym, subst, ◌∙◌, inl, inr, Some}
use Rattle.std.proofs.lemmas.Grind.{common_steps}
use Rattle.std.proofs.lemmas.Bool.{cases_lt}
use Rattle.cnf_base.specs.declared.cnf.Entry.TheVariants.{Clause}
use Rattle.cnf_base.specs.Literals.{opposite, member}
use Rattle.cnf_base.specs.Clauses.{has_opposites}
use Rattle.lrat_log.specs.Held.{Held}
use Rattle.lrat_log.specs.Learnt.{IsFalse, IsQuiet, IsResolvent}
use Rattle.cdcl.proofs.Literals.{opposite-opposite}
use Rattle.cdcl.specs.declared.trail.Step.{Step}
use Rattle.cdcl.specs.Trail.{literal_at, reason_at, IsBelow, IsFrom, HasReason, IsTrail}
use Rattle.cdcl.specs.Trail.{was_set}
use Rattle.cdcl.specs.Walk.{IsWalk}
use Rattle.cdcl.specs.Learning.{HasTops, HasOpen, HasOneTop}
use Rattle.lrat_log.specs.Learnt.{IsLearnt}
use Rattle.cdcl.proofs.Trails.{was_set_below, below_was_set, trail_consistent}
use Rattle.cdcl.proofs.Watching.{learnt_is_new}

-- literals that are all false on a trail have no opposites among them
false_has_no_opposites : (held : Held) (trail : List Step) (ls : List ℕ) → IsTrail held trail
    → ((x : ℕ) → member x ls ≡ true → IsBelow trail (length trail) (opposite x))
    → ((x : ℕ) → IsBelow trail (length trail) x → IsBelow trail (length trail) (opposite x) → ⊥)
    → has_opposites ls ≡ false
false_has_no_opposites held trail [] t b n = refl
false_has_no_opposites held trail (l ∷ ls) t b n =
    let r = false_has_no_opposites held trail ls t (λ x s. b x (grind (arith, common_steps, s))) n in
    at (member (opposite l) ls) refl r
  where
    at : (m : Bool) → member (opposite l) ls ≡ m → has_opposites ls ≡ false
        → (member (opposite l) ls || has_opposites ls) ≡ false
    at false e r = grind (arith, common_steps, e, r)
    at true e r =
        let x = b l (grind (arith, common_steps)) in
        let y = b (opposite l) (grind (arith, common_steps, e)) in
        absurd (n (opposite l) x y)

-- a clause of which not all literals but one are false has another that is not
other_open : (set : ℕ → Bool) (x : ℕ) (c : List ℕ)
    → ((y : ℕ) × (member y c ≡ true) × (y ≡ x → ⊥) × (set (opposite y) ≡ false))
    ⊎ ((y : ℕ) → member y c ≡ true → (y ≡ x) ⊎ (set (opposite y) ≡ true))
other_open set x [] = inr (λ y s. absurd (cc))
other_open set x (z ∷ c) = at (eqb z x) (set (opposite z)) refl refl (other_open set x c)
  where
    at : (a b : Bool) → eqb z x ≡ a → set (opposite z) ≡ b
        → ((y : ℕ) × (member y c ≡ true) × (y ≡ x → ⊥) × (set (opposite y) ≡ false))
        ⊎ ((y : ℕ) → member y c ≡ true → (y ≡ x) ⊎ (set (opposite y) ≡ true))
        → ((y : ℕ) × (member y (z ∷ c) ≡ true) × (y ≡ x → ⊥) × (set (opposite y) ≡ false))
        ⊎ ((y : ℕ) → member y (z ∷ c) ≡ true → (y ≡ x) ⊎ (set (opposite y) ≡ true))
    at a b e f (inl w) = inl (w.0, (let s = w.1 in grind (arith, common_steps, s)), w.2, w.3)
    at false false e f (inr g) = inl (z, grind (arith, common_steps), (λ q. grind (arith, common_steps, e, q)), f)
    at true b e f (inr g) = inr (λ y s. first y (eqb y z) refl s)
      where
        first : (y : ℕ) (m : Bool) → eqb y z ≡ m → member y (z ∷ c) ≡ true → (y ≡ x) ⊎ (set (opposite y) ≡ true)
        first y true k s = inl (grind (arith, common_steps, k, e))
        first y false k s = g y (grind (arith, common_steps, k, s))
    at false true e f (inr g) = inr (λ y s. first y (eqb y z) refl s)
      where
        first : (y : ℕ) (m : Bool) → eqb y z ≡ m → member y (z ∷ c) ≡ true → (y ≡ x) ⊎ (set (opposite y) ≡ true)
        first y true k s = let yz : y ≡ z = grind (arith, common_steps, k) in
            inr (ap (λ (n : ℕ). set (opposite n)) yz ∙ f)
        first y false k s = g y (grind (arith, common_steps, k, s))

not_below : (trail : List Step) (top l : ℕ) → was_set trail top l ≡ false → IsBelow trail top l → ⊥
not_below trail top l n b = let s = below_was_set trail top l b in absurd (cc)

from_top : (trail : List Step) (top n l : ℕ) → n ≤ length trail → was_set trail top l ≡ false → IsBelow trail n l
    → IsFrom trail top l
from_top trail top n l h u b = at (cases_lt b.0 top)
  where
    at : (b.0 < top) ⊎ (top ≤ b.0) → IsFrom trail top l
    at (inl k) = absurd (not_below trail top l u (b.0, k, b.2))
    at (inr k) = (b.0, k, (let s = b.1 in omega arith), b.2)

-- at the conflict
pub open_begins : (held : Held) (trail : List Step) (top id : ℕ) (marked : ℕ → Bool) (c : List ℕ)
    → IsQuiet held (was_set trail top)
    → held id ≡ Some (Clause c) → ((x : ℕ) → member x c ≡ true → IsBelow trail (length trail) (opposite x))
    → ((l : ℕ) → marked l ≡ member (opposite l) c) → HasOpen trail top marked 0
open_begins held trail top id marked c q e f m z = at (all_open c)
  where
    all_open : (d : List ℕ) → ((y : ℕ) × (member y d ≡ true) × (was_set trail top (opposite y) ≡ false))
        ⊎ IsFalse (was_set trail top) d
    all_open [] = inr (λ y s. absurd (cc))
    all_open (w ∷ d) = two (was_set trail top (opposite w)) refl (all_open d)
      where
        two : (b : Bool) → was_set trail top (opposite w) ≡ b
            → ((y : ℕ) × (member y d ≡ true) × (was_set trail top (opposite y) ≡ false)) ⊎ IsFalse (was_set trail top) d
            → ((y : ℕ) × (member y (w ∷ d) ≡ true) × (was_set trail top (opposite y) ≡ false))
            ⊎ IsFalse (was_set trail top) (w ∷ d)
        two b g (inl k) = inl (k.0, (let s = k.1 in grind (arith, common_steps, s)), k.2)
        two false g (inr k) = inl (w, grind (arith, common_steps), g)
        two true g (inr k) = inr (λ y s. one y (eqb y w) refl s)
          where
            one : (y : ℕ) (r : Bool) → eqb y w ≡ r → member y (w ∷ d) ≡ true → was_set trail top (opposite y) ≡ true
            one y true h s = let yw : y ≡ w = grind (arith, common_steps, h) in
                ap (λ (n : ℕ). was_set trail top (opposite n)) yw ∙ g
            one y false h s = k y (grind (arith, common_steps, h, s))

    at : ((y : ℕ) × (member y c ≡ true) × (was_set trail top (opposite y) ≡ false)) ⊎ IsFalse (was_set trail top) c
        → (l : ℕ) × (marked l ≡ true) × IsFrom trail top l
    at (inr k) = absurd ((q id c e).0 k)
    at (inl k) = (
      opposite k.0,
      m (opposite k.0) ∙ ap (λ (y : ℕ). member y c) (opposite-opposite k.0) ∙ k.1,
      from_top trail top (length trail) (opposite k.0) (omega arith) k.2 (f k.0 k.1),
    )

-- a literal that is not marked
pub open_passes : (trail : List Step) (top tops : ℕ) (marked : ℕ → Bool) → HasOpen trail top marked tops
    → HasOpen trail top marked tops
open_passes trail top tops marked o = o

-- where the literal that is resolved is of the top level, its reason has another one
pub open_resolves : (held : Held) (trail : List Step) (top q tops : ℕ) (marked marked' : ℕ → Bool)
    (r : HasReason held trail q) → IsTrail held trail
    → IsQuiet held (was_set trail top) → q < length trail
    → ((l : ℕ) → marked' l
    ≡ ((marked l && not (eqb l (literal_at trail q)))
    || (member (opposite l) r.clause && not (eqb (opposite l) (literal_at trail q)))))
    → HasOpen trail top marked tops → HasOpen trail top marked' tops
open_resolves held trail top q tops marked marked' r t quiet h m o z = at (o z)
  where
    at : (l : ℕ) × (marked l ≡ true) × IsFrom trail top l → (l : ℕ) × (marked' l ≡ true) × IsFrom trail top l
    at w = same (eqb w.0 (literal_at trail q)) refl
      where
        same : (b : Bool) → eqb w.0 (literal_at trail q) ≡ b → (l : ℕ) × (marked' l ≡ true) × IsFrom trail top l
        same false e = (w.0, (let a = m w.0 in let s = w.1 in grind (arith, common_steps, a, e, s)), w.2)
        same true e =
            let is : w.0 ≡ literal_at trail q = grind (arith, common_steps, e) in
            more (w.2.0) w.2.1 w.2.2 (w.2.3 ∙ is)
          where
            more : (j : ℕ) → top ≤ j → j < length trail → literal_at trail j ≡ literal_at trail q
                → (l : ℕ) × (marked' l ≡ true) × IsFrom trail top l
            more j a b k = place (cases_lt j q)
              where
                here : top ≤ q → (l : ℕ) × (marked' l ≡ true) × IsFrom trail top l
                here tq = found (other_open (was_set trail top) (literal_at trail q) r.clause)
                  where
                    unset : (l : ℕ) → (IsBelow trail top l → ⊥) → was_set trail top l ≡ false
                    unset l n = cases (was_set trail top l) refl
                      where
                        cases : (b : Bool) → was_set trail top l ≡ b → b ≡ false
                        cases false e = refl
                        cases true e = absurd (n (was_set_below trail top l e))

                    found : ((y : ℕ) × (member y r.clause ≡ true) × (y ≡ literal_at trail q → ⊥)
                        × (was_set trail top (opposite y) ≡ false))
                        ⊎ ((y : ℕ) → member y r.clause ≡ true → (y ≡ literal_at trail q)
                        ⊎ (was_set trail top (opposite y) ≡ true))
                        → (l : ℕ) × (marked' l ≡ true) × IsFrom trail top l
                    found (inr g) =
                        absurd ((quiet (reason_at trail q) r.clause r.held_as).1 (literal_at trail q) (record {
                          stands = r.stands;
                          not_true = unset (literal_at trail q) (λ b. t.once b.0 q (let s = b.1 in omega arith) h b.2);
                          not_false =
                              unset (opposite (literal_at trail q))
                              (λ b. t.apart b.0 q (let s = b.1 in omega arith) h
                              (ap opposite b.2 ∙ opposite-opposite (literal_at trail q)));
                          others_false = g;
                        }))
                    found (inl y) =
                        let o2 = opposite-opposite y.0 in
                        let mem : member (opposite (opposite y.0)) r.clause ≡ true =
                        ap (λ (n : ℕ). member n r.clause) o2 ∙ y.1 in
                        let ne : opposite (opposite y.0) ≡ literal_at trail q → ⊥ = λ s. y.2 (sym o2 ∙ s) in
                        let a = m (opposite y.0) in
                        (opposite y.0, grind (arith, common_steps, a, mem, ne), placed (r.others y.0 y.1) y.2 y.3)
                      where
                        placed : (y.0 ≡ literal_at trail q) ⊎ IsBelow trail q (opposite y.0)
                            → (y.0 ≡ literal_at trail q → ⊥) → was_set trail top (opposite y.0) ≡ false
                            → IsFrom trail top (opposite y.0)
                        placed (inl s) n u = absurd (n s)
                        placed (inr s) n u = from_top trail top q (opposite y.0) (omega arith) u s

                place : (j < q) ⊎ (q ≤ j) → (l : ℕ) × (marked' l ≡ true) × IsFrom trail top l
                place (inl s) = absurd (t.once j q s h k)
                place (inr s) = equal (eqb q j) refl
                  where
                    equal : (b : Bool) → eqb q j ≡ b → (l : ℕ) × (marked' l ≡ true) × IsFrom trail top l
                    equal true e = here (let qj : q ≡ j = grind (arith, common_steps, e) in omega arith)
                    equal false e = absurd (t.once q j (grind (arith, common_steps, e, s)) b (sym k))

-- a clause learnt from a conflict, of which one literal is of the top level
pub learnt_from_conflict : (held : Held) (trail : List Step) (top : ℕ) (ls hints : List ℕ) → IsTrail held trail
    → top ≤ length trail → IsQuiet held (was_set trail top)
    → IsResolvent held ls hints → HasTops trail top ls 1 → has_opposites ls ≡ false → IsLearnt held ls hints
learnt_from_conflict held trail top ls hints t h q r o n = record {
  not_empty =
      λ e. (let s : member (get_or ls 0 0) [] ≡ true = ap (member (get_or ls 0 0)) (sym e) ∙ o.0 in absurd (cc));
  no_opposites = n;
  new = learnt_is_new held trail top (get_or ls 0 0) ls t h q o.0 o.1 o.2;
  resolvent = r;
}

pub open_keeps : (held : Held) (trail : List Step) (top q tops tops' : ℕ) (marked marked' : ℕ → Bool)
    (learnt hints : List ℕ) → IsTrail held trail → q < length trail
    → IsWalk held trail (q + 1) marked learnt hints → (top ≤ q → tops' ≡ min (tops + 1) 2) → (q < top → tops' ≡ tops)
    → HasOpen trail top marked tops → HasOpen trail top marked' tops'
open_keeps held trail top q tops tops' marked marked' learnt hints t h w a b o z = at (cases_lt q top)
  where
    at : (q < top) ⊎ (top ≤ q) → (l : ℕ) × (marked' l ≡ true) × IsFrom trail top l
    at (inr k) = absurd (let e = a k in omega arith)
    at (inl k) =
        let m = o (sym (b k) ∙ z) in
        let u = w.marked_below m.0 m.1 in
        absurd (t.once u.0 m.2.0 (let s = u.1 in let r = m.2.1 in omega arith) m.2.2 (u.2 ∙ sym m.2.3))

pub one_keeps : (trail : List Step) (top q tops tops' : ℕ) (only kept : Bool) → q < length trail
    → ((i : ℕ) → top < i → i < length trail → reason_at trail i ≡ 0 → ⊥)
    → ((reason_at trail q ≡ 0 → ⊥) → top ≤ q → only ≡ true → kept ≡ false) → kept ≡ true
    → (top ≤ q → tops' ≡ min (tops + 1) 2) → (q < top → tops' ≡ tops)
    → (only ≡ true → HasOneTop top (q + 1) tops) → only ≡ true → HasOneTop top q tops'
one_keeps trail top q tops tops' only kept h d k kt a b o z = at (cases_lt q top) (o z)
  where
    at : (q < top) ⊎ (top ≤ q) → HasOneTop top (q + 1) tops → HasOneTop top q tops'
    at (inl s) (inl e) = inl (b s ∙ e)
    at (inl s) (inr e) = inr (b s ∙ e.0, omega arith)
    at (inr s) (inr e) = absurd (let r = e.1 in omega arith)
    at (inr s) (inl e) = inr (a s ∙ (let m : min (tops + 1) 2 ≡ 1 = omega arith in m), first (cases_lt top q))
      where
        first : (top < q) ⊎ (q ≤ top) → q ≤ top
        first (inr u) = u
        first (inl u) = absurd (let f = k (d q u h) s z in cc)

pub one_goes_down : (top t q tops : ℕ) → q ≤ t → HasOneTop top t tops → HasOneTop top q tops
one_goes_down top t q tops h (inl e) = inl e
one_goes_down top t q tops h (inr e) = inr (e.0, (let s = e.1 in omega arith))

pub one_most : (top t tops : ℕ) → HasOneTop top t tops → tops ≤ 1
one_most top t tops (inl e) = omega arith
one_most top t tops (inr e) = let s = e.0 in omega arith

pub some_top : (held : Held) (trail : List Step) (top tops : ℕ) (marked : ℕ → Bool) (learnt hints : List ℕ)
    → IsWalk held trail 0 marked learnt hints
    → HasOpen trail top marked tops → tops ≡ 0 → ⊥
some_top held trail top tops marked learnt hints w o z =
    let m = o z in
    let b = w.marked_below m.0 m.1 in
    let s = b.1 in
    omega arith

pub learnt_below : (held : Held) (trail : List Step) (marked : ℕ → Bool) (learnt hints : List ℕ)
    → IsWalk held trail 0 marked learnt hints
    → (x : ℕ) → member x learnt ≡ true → IsBelow trail (length trail) (opposite x)
learnt_below held trail marked learnt hints w x s = let f = w.learnt_from x s in (f.0, f.2, f.3)

-- the clause that the analysis gives, where one literal of the top level is in it
pub analysed_is_learnt : (held : Held) (trail : List Step) (top n : ℕ) (ls hints : List ℕ) → IsTrail held trail
    → top ≤ length trail → IsQuiet held (was_set trail top)
    → IsResolvent held ls hints → HasTops trail top ls n → n ≡ 1
    → ((x : ℕ) → member x ls ≡ true → IsBelow trail (length trail) (opposite x)) → IsLearnt held ls hints
analysed_is_learnt held trail top n ls hints t h q r o e b =
    learnt_from_conflict held trail top ls hints t h q r (subst (λ (k : ℕ). HasTops trail top ls k) e o)
    (false_has_no_opposites held trail ls t b (λ x y z.
    (let k = trail_consistent held trail (length trail) t (omega arith) x (below_was_set trail (length trail) x y) in
    let m = below_was_set trail (length trail) (opposite x) z in
    absurd (cc))))

pub one_top : (trail : List Step) (top n : ℕ) (ls : List ℕ) → n ≡ 1 → HasTops trail top ls n → HasTops trail top ls 1
one_top trail top n ls e o = subst (λ (k : ℕ). HasTops trail top ls k) e o
