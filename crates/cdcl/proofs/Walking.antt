-- The steps of the walk down the trail.
use Rattle.std.proofs.Common.{◌≡◌, ℕ, ◌+◌, ◌<◌, ◌⊎◌, ◌||◌, ◌&&◌, not, eqb, Bool, true, false, List, [], ◌∷◌, ◌++◌}
use Rattle.std.proofs.Common.{length, refl, arith, ap, sym, ◌∙◌, inl, inr, subst, Some}
use Rattle.std.proofs.lemmas.Grind.{common_steps}
use Rattle.std.proofs.lemmas.Bool.{false_from_ne_true}
use Rattle.cnf_base.specs.declared.cnf.Entry.TheVariants.{Clause}
use Rattle.cnf_base.specs.Literals.{opposite, member}
use Rattle.lrat_log.specs.Accepted.{also, all_false}
use Rattle.lrat_log.specs.Held.{Held}
use Rattle.lrat_log.specs.Learnt.{IsUnit, StandsInHint, IsChain, IsResolvent}
use Rattle.cdcl.proofs.Literals.{opposite-opposite, member-append}
use Rattle.cdcl.specs.declared.trail.Step.{Step}
use Rattle.cdcl.specs.Trail.{literal_at, reason_at, IsBelow, IsFrom, HasReason, IsTrail}
use Rattle.cdcl.specs.Walk.{IsWalk}

below_up : (trail : List Step) (q l : ℕ) → IsBelow trail q l → IsBelow trail (q + 1) l
below_up trail q l b = (b.0, omega arith, b.2)

below_down : (trail : List Step) (q l : ℕ) → IsBelow trail (q + 1) l → (literal_at trail q ≡ l → ⊥) → IsBelow trail q l
below_down trail q l b n = at b.0 b.1 b.2
  where
    at : (j : ℕ) → j < q + 1 → literal_at trail j ≡ l → IsBelow trail q l
    at j h e = (j, grind (arith, n, e, h), e)

from_down : (trail : List Step) (q l : ℕ) → IsFrom trail (q + 1) l → IsFrom trail q l
from_down trail q l f = (f.0, omega arith, f.2, f.3)

-- one more hint in front
stands_behind : (held : Held) (h : ℕ) (hs : List ℕ) (l : ℕ) → StandsInHint held hs l → StandsInHint held (h ∷ hs) l
stands_behind held h hs l s = (s.0, s.1, grind (arith, common_steps, s.2), s.3, s.4)

chain_cons : (held : Held) (h : ℕ) (hs : List ℕ) (c : List ℕ) (l : ℕ) (set : ℕ → Bool) → held h ≡ Some (Clause c)
    → IsUnit set c l
    → StandsInHint held hs (opposite l) → IsChain held hs (also set l) → IsChain held (h ∷ hs) set
chain_cons held h [] c l set e u s k = absurd k
chain_cons held h (g ∷ gs) c l set e u s k = (c, l, e, u, s, k)

-- the conflict
pub walk_begins : (held : Held) (trail : List Step) (marked : ℕ → Bool) (h : ℕ) (c : List ℕ) → held h ≡ Some (Clause c)
    → ((x : ℕ) → member x c ≡ true → IsBelow trail (length trail) (opposite x))
    → ((l : ℕ) → marked l ≡ member (opposite l) c)
    → IsWalk held trail (length trail) marked [] (h ∷ [])
walk_begins held trail marked h c e f m = record {
  chain = λ set a b d.
      (c, e, λ x s. a (opposite x) (m (opposite x) ∙ ap (λ (y : ℕ). member y c) (opposite-opposite x) ∙ s));
  marked_below = λ l s. (let mk : member (opposite l) c ≡ true = sym (m l) ∙ s in
      let b : IsBelow trail (length trail) (opposite (opposite l)) = f (opposite l) mk in
      (b.0, b.1, b.2 ∙ opposite-opposite l));
  marked_drawn = λ l s. (h, c, grind (arith, common_steps), e, sym (m l) ∙ s);
  learnt_drawn = λ l s. absurd (cc);
  learnt_from = λ l s. absurd (cc);
}

-- a literal that is not marked
pub walk_passes : (held : Held) (trail : List Step) (q : ℕ) (marked : ℕ → Bool) (learnt hints : List ℕ)
    → marked (literal_at trail q) ≡ false → IsWalk held trail (q + 1) marked learnt hints
    → IsWalk held trail q marked learnt hints
walk_passes held trail q marked learnt hints n w = record {
  chain = λ set a b d. w.chain set a b (λ l s. up l (d l s));
  marked_below =
      λ l s. below_down trail q l (w.marked_below l s)
      (λ e. absurd (let m : marked (literal_at trail q) ≡ true = ap marked e ∙ s in cc));
  marked_drawn = w.marked_drawn;
  learnt_drawn = w.learnt_drawn;
  learnt_from = λ l s. from_down trail q (opposite l) (w.learnt_from l s);
}
  where
    up : (l : ℕ) → IsBelow trail q l ⊎ (member (opposite l) learnt ≡ true) → IsBelow trail (q + 1) l
        ⊎ (member (opposite l) learnt ≡ true)
    up l (inl b) = inl (below_up trail q l b)
    up l (inr b) = inr b

-- a marked literal is kept: its opposite is learnt
pub walk_keeps : (held : Held) (trail : List Step) (q : ℕ) (marked marked' : ℕ → Bool) (learnt hints : List ℕ)
    → q < length trail
    → marked (literal_at trail q) ≡ true → ((l : ℕ) → marked' l ≡ (marked l && not (eqb l (literal_at trail q))))
    → IsWalk held trail (q + 1) marked learnt hints
    → IsWalk held trail q marked' (learnt ++ opposite (literal_at trail q) ∷ []) hints
walk_keeps held trail q marked marked' learnt hints h n m w = record {
  chain = λ set a b d. w.chain set
      (λ l s. marked_set set a b l (eqb l (literal_at trail q)) refl s)
      (λ l s. b l (old l s))
      (λ l s. up l (d l s));
  marked_below =
      λ l s. (let ml = m l in
      below_down trail q l (w.marked_below l (grind (arith, common_steps, ml, s)))
      (λ e. grind (arith, common_steps, ml, s, e)));
  marked_drawn = λ l s. (let ml = m l in w.marked_drawn l (grind (arith, common_steps, ml, s)));
  learnt_drawn = λ l s. drawn l (cases l s);
  learnt_from = λ l s. from l (cases l s);
}
  where
    old : (l : ℕ) → member l learnt ≡ true → member l (learnt ++ opposite (literal_at trail q) ∷ []) ≡ true
    old l s = let e = member-append l learnt (opposite (literal_at trail q) ∷ []) in grind (arith, common_steps, e, s)

    new : member (opposite (literal_at trail q)) (learnt ++ opposite (literal_at trail q) ∷ []) ≡ true
    new = let e = member-append (opposite (literal_at trail q)) learnt (opposite (literal_at trail q) ∷ []) in
        grind (arith, common_steps, e)

    cases : (l : ℕ) → member l (learnt ++ opposite (literal_at trail q) ∷ []) ≡ true
        → (member l learnt ≡ true) ⊎ (l ≡ opposite (literal_at trail q))
    cases l s =
        at (member l learnt) (eqb l (opposite (literal_at trail q))) refl refl
        (member-append l learnt (opposite (literal_at trail q) ∷ []))
      where
        at : (p r : Bool) → member l learnt ≡ p → eqb l (opposite (literal_at trail q)) ≡ r
            → member l (learnt ++ opposite (literal_at trail q) ∷ []) ≡ (p || (r || false))
            → (member l learnt ≡ true) ⊎ (l ≡ opposite (literal_at trail q))
        at true r e f k = inl e
        at false true e f k = inr (grind (arith, common_steps, f))
        at false false e f k = absurd (cc)

    marked_set : (set : ℕ → Bool) → ((l : ℕ) → marked' l ≡ true → set l ≡ true)
        → ((l : ℕ) → member l (learnt ++ opposite (literal_at trail q) ∷ []) ≡ true → set (opposite l) ≡ true)
        → (l : ℕ) (r : Bool) → eqb l (literal_at trail q) ≡ r → marked l ≡ true → set l ≡ true
    marked_set set a b l true e s =
        let le : l ≡ literal_at trail q = grind (arith, common_steps, e) in
        ap set (le ∙ sym (opposite-opposite (literal_at trail q))) ∙ b (opposite (literal_at trail q)) new
    marked_set set a b l false e s = let ml = m l in a l (grind (arith, common_steps, ml, s, e))

    up : (l : ℕ) → IsBelow trail q l ⊎ (member (opposite l) (learnt ++ opposite (literal_at trail q) ∷ []) ≡ true)
        → IsBelow trail (q + 1) l ⊎ (member (opposite l) learnt ≡ true)
    up l (inl b) = inl (below_up trail q l b)
    up l (inr b) = at (cases (opposite l) b)
      where
        at : (member (opposite l) learnt ≡ true) ⊎ (opposite l ≡ opposite (literal_at trail q))
            → IsBelow trail (q + 1) l ⊎ (member (opposite l) learnt ≡ true)
        at (inl k) = inr k
        at (inr k) =
            inl (
              q,
              omega arith,
              sym (opposite-opposite (literal_at trail q)) ∙ ap opposite (sym k)
                  ∙ opposite-opposite l,
            )

    drawn : (l : ℕ) → (member l learnt ≡ true) ⊎ (l ≡ opposite (literal_at trail q)) → StandsInHint held hints l
    drawn l (inl k) = w.learnt_drawn l k
    drawn l (inr k) = let s = w.marked_drawn (literal_at trail q) n in
        (s.0, s.1, s.2, s.3, ap (λ (y : ℕ). member y s.1) k ∙ s.4)

    from : (l : ℕ) → (member l learnt ≡ true) ⊎ (l ≡ opposite (literal_at trail q)) → IsFrom trail q (opposite l)
    from l (inl k) = from_down trail q (opposite l) (w.learnt_from l k)
    from l (inr k) = (q, omega arith, h, sym (opposite-opposite (literal_at trail q)) ∙ ap opposite (sym k))

not_twice : (held : Held) (trail : List Step) (q : ℕ) (l : ℕ) → IsTrail held trail → q < length trail
    → literal_at trail q ≡ l → IsBelow trail q l → ⊥
not_twice held trail q l t h e b = t.once b.0 q b.1 h (b.2 ∙ sym e)

not_both : (held : Held) (trail : List Step) (q : ℕ) (l : ℕ) → IsTrail held trail → q < length trail
    → literal_at trail q ≡ l → IsBelow trail q (opposite l) → ⊥
not_both held trail q l t h e b = t.apart b.0 q b.1 h (ap opposite b.2 ∙ opposite-opposite l ∙ sym e)

-- a marked literal is resolved with its reason
pub walk_resolves : (held : Held) (trail : List Step) (q : ℕ) (marked marked' : ℕ → Bool) (learnt hints : List ℕ)
    (r : HasReason held trail q)
    → IsTrail held trail → q < length trail → marked (literal_at trail q) ≡ true
    → ((l : ℕ) → marked' l
    ≡ ((marked l && not (eqb l (literal_at trail q)))
    || (member (opposite l) r.clause && not (eqb (opposite l) (literal_at trail q)))))
    → IsWalk held trail (q + 1) marked learnt hints → IsWalk held trail q marked' learnt (reason_at trail q ∷ hints)
walk_resolves held trail q marked marked' learnt hints r t h n m w = record {
  chain = λ set a b d. chain_cons held (reason_at trail q) hints r.clause (literal_at trail q) set r.held_as
      (unit set a b d)
      (w.marked_drawn (literal_at trail q) n)
      (w.chain (also set (literal_at trail q)) (λ l s. goes_on set a l (eqb l (literal_at trail q)) refl s)
      (λ l s. still set (opposite l) (b l s)) (λ l s. up set d l (eqb l (literal_at trail q)) refl s));
  marked_below = λ l s. below l (cases l s);
  marked_drawn = λ l s. drawn l (cases l s);
  learnt_drawn = λ l s. stands_behind held (reason_at trail q) hints l (w.learnt_drawn l s);
  learnt_from = λ l s. from_down trail q (opposite l) (w.learnt_from l s);
}
  where
    cases : (l : ℕ) → marked' l ≡ true
        → ((marked l ≡ true) × (l ≡ literal_at trail q → ⊥))
        ⊎ ((member (opposite l) r.clause ≡ true) × (opposite l ≡ literal_at trail q → ⊥))
    cases l s =
        at (marked l) (eqb l (literal_at trail q)) (member (opposite l) r.clause)
        (eqb (opposite l) (literal_at trail q)) refl refl refl refl (sym (m l) ∙ s)
      where
        at : (p e k f : Bool) → marked l ≡ p → eqb l (literal_at trail q) ≡ e → member (opposite l) r.clause ≡ k
            → eqb (opposite l) (literal_at trail q) ≡ f
            → ((p && not e) || (k && not f)) ≡ true
            → ((marked l ≡ true) × (l ≡ literal_at trail q → ⊥))
            ⊎ ((member (opposite l) r.clause ≡ true) × (opposite l ≡ literal_at trail q → ⊥))
        at true false k f a b c d z = inl (a, λ u. grind (arith, common_steps, b, u))
        at true true true false a b c d z = inr (c, λ u. grind (arith, common_steps, d, u))
        at false e true false a b c d z = inr (c, λ u. grind (arith, common_steps, d, u))
        at true true true true a b c d z = absurd (cc)
        at true true false f a b c d z = absurd (cc)
        at false e false f a b c d z = absurd (cc)
        at false e true true a b c d z = absurd (cc)

    below : (l : ℕ) → ((marked l ≡ true) × (l ≡ literal_at trail q → ⊥))
        ⊎ ((member (opposite l) r.clause ≡ true) × (opposite l ≡ literal_at trail q → ⊥)) → IsBelow trail q l
    below l (inl u) = below_down trail q l (w.marked_below l u.0) (λ e. u.1 (sym e))
    below l (inr u) = at (r.others (opposite l) u.0)
      where
        at : (opposite l ≡ literal_at trail q) ⊎ IsBelow trail q (opposite (opposite l)) → IsBelow trail q l
        at (inl e) = absurd (u.1 e)
        at (inr b) = (b.0, b.1, b.2 ∙ opposite-opposite l)

    drawn : (l : ℕ) → ((marked l ≡ true) × (l ≡ literal_at trail q → ⊥))
        ⊎ ((member (opposite l) r.clause ≡ true) × (opposite l ≡ literal_at trail q → ⊥))
        → StandsInHint held (reason_at trail q ∷ hints) (opposite l)
    drawn l (inl u) = stands_behind held (reason_at trail q) hints (opposite l) (w.marked_drawn l u.0)
    drawn l (inr u) = (reason_at trail q, r.clause, grind (arith, common_steps), r.held_as, u.0)

    still : (set : ℕ → Bool) (l : ℕ) → set l ≡ true → also set (literal_at trail q) l ≡ true
    still set l s = grind (arith, common_steps, s)

    goes_on : (set : ℕ → Bool) → ((l : ℕ) → marked' l ≡ true → set l ≡ true) → (l : ℕ) (e : Bool)
        → eqb l (literal_at trail q) ≡ e → marked l ≡ true
        → also set (literal_at trail q) l ≡ true
    goes_on set a l true e s = grind (arith, common_steps, e)
    goes_on set a l false e s = let ml = m l in still set l (a l (grind (arith, common_steps, ml, e, s)))

    up : (set : ℕ → Bool) → ((l : ℕ) → set l ≡ true → IsBelow trail q l ⊎ (member (opposite l) learnt ≡ true))
        → (l : ℕ) (e : Bool) → eqb l (literal_at trail q) ≡ e
        → also set (literal_at trail q) l ≡ true → IsBelow trail (q + 1) l ⊎ (member (opposite l) learnt ≡ true)
    up set d l true e s = inl (q, omega arith, grind (arith, common_steps, e))
    up set d l false e s = more (d l (grind (arith, common_steps, e, s)))
      where
        more : IsBelow trail q l ⊎ (member (opposite l) learnt ≡ true) → IsBelow trail (q + 1) l
            ⊎ (member (opposite l) learnt ≡ true)
        more (inl b) = inl (below_up trail q l b)
        more (inr b) = inr b

    unit : (set : ℕ → Bool) → ((l : ℕ) → marked' l ≡ true → set l ≡ true)
        → ((l : ℕ) → member l learnt ≡ true → set (opposite l) ≡ true)
        → ((l : ℕ) → set l ≡ true → IsBelow trail q l ⊎ (member (opposite l) learnt ≡ true))
        → IsUnit set r.clause (literal_at trail q)
    unit set a b d = record {
      stands = r.stands;
      not_true = false_from_ne_true (set (literal_at trail q)) (λ s. untrue (d (literal_at trail q) s));
      not_false =
          false_from_ne_true (set (opposite (literal_at trail q))) (λ s. unfalse (d (opposite (literal_at trail q)) s));
      others_false = λ x s. other x s (eqb x (literal_at trail q)) refl;
    }
      where
        untrue : IsBelow trail q (literal_at trail q) ⊎ (member (opposite (literal_at trail q)) learnt ≡ true) → ⊥
        untrue (inl k) = not_twice held trail q (literal_at trail q) t h refl k
        untrue (inr k) =
            let f = w.learnt_from (opposite (literal_at trail q)) k in
            t.once q f.0 (omega arith) f.2 (sym (opposite-opposite (literal_at trail q)) ∙ sym f.3)

        unfalse : IsBelow trail q (opposite (literal_at trail q))
            ⊎ (member (opposite (opposite (literal_at trail q))) learnt ≡ true) → ⊥
        unfalse (inl k) = not_both held trail q (literal_at trail q) t h refl k
        unfalse (inr k) =
            let f = w.learnt_from (opposite (opposite (literal_at trail q))) k in
            t.apart q f.0 (omega arith) f.2 (sym (opposite-opposite (opposite (literal_at trail q))) ∙ sym f.3)

        other : (x : ℕ) → member x r.clause ≡ true → (e : Bool) → eqb x (literal_at trail q) ≡ e
            → (x ≡ literal_at trail q) ⊎ (set (opposite x) ≡ true)
        other x s true e = inl (grind (arith, common_steps, e))
        other x s false e =
            let mx = m (opposite x) in
            let o = opposite-opposite x in
            let s2 : member (opposite (opposite x)) r.clause ≡ true = ap (λ (y : ℕ). member y r.clause) o ∙ s in
            let e2 : eqb (opposite (opposite x)) (literal_at trail q) ≡ false =
            ap (λ (y : ℕ). eqb y (literal_at trail q)) o ∙ e in
            inr (a (opposite x) (grind (arith, common_steps, mx, s2, e2)))

-- at the foot of the trail: the learnt clause is a resolvent of its hints
pub walk_ends : (held : Held) (trail : List Step) (marked : ℕ → Bool) (learnt hints : List ℕ)
    → IsWalk held trail 0 marked learnt hints
    → IsResolvent held learnt hints
walk_ends held trail marked learnt hints w = record {
  drawn = w.learnt_drawn;
  chain = w.chain (all_false learnt) (λ l s. absurd (nothing l (w.marked_below l s)))
      (λ l s. ap (λ (y : ℕ). member y learnt) (opposite-opposite l) ∙ s) (λ l s. inr s);
}
  where
    nothing : (l : ℕ) → IsBelow trail 0 l → ⊥
    nothing l b = let h = b.1 in omega arith

pub walk_at : (held : Held) (trail : List Step) (t q : ℕ) (marked : ℕ → Bool) (learnt hints : List ℕ) → t ≡ q + 1
    → IsWalk held trail t marked learnt hints → IsWalk held trail (q + 1) marked learnt hints
walk_at held trail t q marked learnt hints e w = subst (λ (n : ℕ). IsWalk held trail n marked learnt hints) e w
