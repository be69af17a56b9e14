-- Marks.
use Rattle.std.proofs.Common.{◌≡◌, ℕ, zero, suc, ◌+◌, ◌<◌, ◌≤◌, ◌⊎◌, ◌||◌, ◌&&◌, not, eqb, Bool, true, false, cond}
use Rattle.std.proofs.Common.{List, [], ◌∷◌, ◌++◌, length, get_or, set, take, min, refl, arith, ap, sym, subst, ◌∙◌}
use Rattle.std.proofs.Common.{inl, inr, Some, None, Option}
use Rattle.std.proofs.lemmas.Bool.{cases_lt}
use Rattle.cnf_base.specs.declared.cnf.Entry.{Entry}
use Rattle.cnf_base.specs.declared.cnf.Entry.TheVariants.{Clause}
use Rattle.std.proofs.lemmas.Grind.{common_steps}
use Rattle.cnf_base.specs.Literals.{opposite, member}
use Rattle.cdcl.proofs.Literals.{opposite-opposite, member-append}
use Rattle.cdcl.proofs.Members.{member-take}
use Rattle.cdcl.specs.declared.trail.Step.{Step}
use Rattle.lrat_log.specs.Held.{Held}
use Rattle.cdcl.specs.Trail.{literal_at, reason_at, HasReason, IsBelow, IsFrom, IsTrail}
use Rattle.cdcl.specs.Learning.{is_marked, HasTops, is_except}
use Rattle.cdcl.proofs.Trails.{marked-set}

same_opposite : (x y : ℕ) → opposite x ≡ y → x ≡ opposite y
same_opposite x y e = sym (opposite-opposite x) ∙ ap opposite e

pub marked_more : (m0 m1 : List Bool) (clause : List ℕ) (i : ℕ) (except : Option ℕ) (o : ℕ) → i < length clause
    → o ≡ opposite (get_or clause i 0) → o < length m1
    → is_except except (get_or clause i 0) ≡ false
    → ((x : ℕ) → is_marked m1 x
    ≡ (is_marked m0 x || (member (opposite x) (take i clause) && not (is_except except (opposite x)))))
    → (x : ℕ) → is_marked (set m1 o true) x
    ≡ (is_marked m0 x || (member (opposite x) (take (i + 1) clause) && not (is_except except (opposite x))))
marked_more m0 m1 clause i except o h e g n m x =
    at (eqb x o) refl (m x) (marked-set m1 o true x g) (member-take (opposite x) clause i h)
  where
    at : (b : Bool) → eqb x o ≡ b → is_marked m1 x
        ≡ (is_marked m0 x || (member (opposite x) (take i clause) && not (is_except except (opposite x))))
        → is_marked (set m1 o true) x ≡ cond (eqb x o) true (is_marked m1 x)
        → member (opposite x) (take (i + 1) clause)
        ≡ (member (opposite x) (take i clause) || eqb (opposite x) (get_or clause i 0))
        → is_marked (set m1 o true) x
        ≡ (is_marked m0 x || (member (opposite x) (take (i + 1) clause) && not (is_except except (opposite x))))
    at true q a b k =
        let xo : x ≡ o = grind (arith, common_steps, q) in
        let ox : opposite x ≡ get_or clause i 0 = ap opposite (xo ∙ e) ∙ opposite-opposite (get_or clause i 0) in
        let n2 : is_except except (opposite x) ≡ false = ap (is_except except) ox ∙ n in
        grind (arith, common_steps, a, b, k, ox, n2, q)
    at false q a b k =
        let other : opposite x ≡ get_or clause i 0 → ⊥ =
        λ z. (let xo : x ≡ o = same_opposite x (get_or clause i 0) z ∙ sym e in
        grind (arith, common_steps, q, xo)) in
        grind (arith, common_steps, a, b, k, other, q)

pub marked_skips : (m0 m1 : List Bool) (clause : List ℕ) (i : ℕ) (except : Option ℕ) → i < length clause
    → is_except except (get_or clause i 0) ≡ true
    → ((x : ℕ) → is_marked m1 x
    ≡ (is_marked m0 x || (member (opposite x) (take i clause) && not (is_except except (opposite x)))))
    → (x : ℕ) → is_marked m1 x
    ≡ (is_marked m0 x || (member (opposite x) (take (i + 1) clause) && not (is_except except (opposite x))))
marked_skips m0 m1 clause i except h e m x =
    at (eqb (opposite x) (get_or clause i 0)) refl (m x) (member-take (opposite x) clause i h)
  where
    at : (b : Bool) → eqb (opposite x) (get_or clause i 0) ≡ b → is_marked m1 x
        ≡ (is_marked m0 x || (member (opposite x) (take i clause) && not (is_except except (opposite x))))
        → member (opposite x) (take (i + 1) clause)
        ≡ (member (opposite x) (take i clause) || eqb (opposite x) (get_or clause i 0))
        → is_marked m1 x
        ≡ (is_marked m0 x || (member (opposite x) (take (i + 1) clause) && not (is_except except (opposite x))))
    at true q a k =
        let ox : opposite x ≡ get_or clause i 0 = grind (arith, common_steps, q) in
        let n2 : is_except except (opposite x) ≡ true = ap (is_except except) ox ∙ e in
        grind (arith, common_steps, a, k, n2)
    at false q a k = grind (arith, common_steps, a, k, q)

-- one more learnt literal
no_members : (xs : List ℕ) → ((x : ℕ) → member x xs ≡ true → ⊥) → xs ≡ []
no_members [] n = refl
no_members (x ∷ xs) n = absurd (n x (grind (arith, common_steps)))

pub tops_kept_top : (trail : List Step) (top q n : ℕ) (learnt : List ℕ) → top ≤ q → q < length trail
    → ((x : ℕ) → member x learnt ≡ true → IsBelow trail top (opposite x) → ⊥) → HasTops trail top learnt n
    → HasTops trail top (learnt ++ opposite (literal_at trail q) ∷ []) (min (n + 1) 2)
tops_kept_top trail top q zero learnt h g f t =
    subst (λ (ls : List ℕ). HasTops trail top (ls ++ opposite (literal_at trail q) ∷ []) 1)
    (sym (no_members learnt (λ x s. f x s (t x s)))) (
      (grind (arith, common_steps)),
      (q, h, g, sym (opposite-opposite (literal_at trail q))),
      λ x s. inl (grind (arith, common_steps, s)),
    )
tops_kept_top trail top q (suc n) learnt h g f t =
    let e : min (suc n + 1) 2 ≡ 2 = omega arith in
    rw e tt

pub tops_kept_below : (trail : List Step) (top q n : ℕ) (learnt : List ℕ) → q < top → HasTops trail top learnt n
    → HasTops trail top (learnt ++ opposite (literal_at trail q) ∷ []) n
tops_kept_below trail top q zero learnt h t = λ x s. cases x (member x learnt) refl s
  where
    cases : (x : ℕ) (b : Bool) → member x learnt ≡ b → member x (learnt ++ opposite (literal_at trail q) ∷ []) ≡ true
        → IsBelow trail top (opposite x)
    cases x true e s = t x e
    cases x false e s =
        let k = member-append x learnt (opposite (literal_at trail q) ∷ []) in
        let xe : x ≡ opposite (literal_at trail q) = grind (arith, common_steps, k, e, s) in
        (q, h, sym (opposite-opposite (literal_at trail q)) ∙ ap opposite (sym xe))
tops_kept_below trail top q (suc zero) [] h t = let s = t.0 in absurd (cc)
tops_kept_below trail top q (suc zero) (y ∷ learnt) h t =
    (grind (arith, common_steps), t.1, λ x s. cases x (member x (y ∷ learnt)) refl s)
  where
    cases : (x : ℕ) (b : Bool) → member x (y ∷ learnt) ≡ b
        → member x ((y ∷ learnt) ++ opposite (literal_at trail q) ∷ []) ≡ true
        → (x ≡ y) ⊎ IsBelow trail top (opposite x)
    cases x true e s = t.2 x e
    cases x false e s =
        let k = member-append x (y ∷ learnt) (opposite (literal_at trail q) ∷ []) in
        let xe : x ≡ opposite (literal_at trail q) = grind (arith, common_steps, k, e, s) in
        inr (q, h, sym (opposite-opposite (literal_at trail q)) ∙ ap opposite (sym xe))
tops_kept_below trail top q (suc (suc n)) learnt h t = tt

pub begins_marked : (old new : List Bool) (c d : List ℕ)
    → ((l : ℕ) → is_marked new l ≡ (is_marked old l || (member (opposite l) d && not (is_except None (opposite l)))))
    → ((l : ℕ) → is_marked old l ≡ false) → c ≡ d → (l : ℕ) → is_marked new l ≡ member (opposite l) c
begins_marked old new c d e z q l =
    let a = e l in
    let k = z l in
    let s : member (opposite l) c ≡ member (opposite l) d = ap (member (opposite l)) q in
    grind (arith, common_steps, a, k, s)

pub unmarked : (marks : List Bool) (x : ℕ) → x < length marks → (l : ℕ)
    → is_marked (set marks x false) l ≡ (is_marked marks l && not (eqb l x))
unmarked marks x h l = let e = marked-set marks x false l h in grind (arith, common_steps, e)

pub resolved_marks : (m0 m1 m2 : List Bool) (x : ℕ) (c d : List ℕ)
    → ((l : ℕ) → is_marked m1 l ≡ (is_marked m0 l && not (eqb l x))) → c ≡ d
    → ((l : ℕ) → is_marked m2 l ≡ (is_marked m1 l || (member (opposite l) d && not (is_except (Some x) (opposite l)))))
    → (l : ℕ) → is_marked m2 l
    ≡ ((is_marked m0 l && not (eqb l x)) || (member (opposite l) c && not (eqb (opposite l) x)))
resolved_marks m0 m1 m2 x c d u q m l =
    let a = m l in
    let b = u l in
    rw q (a ∙ ap (λ (t : Bool). t || (member (opposite l) d && not (eqb (opposite l) x))) b)

pub tops_next : (trail : List Step) (top q n r : ℕ) (learnt : List ℕ) → q < length trail → (top ≤ q → r ≡ min (n + 1) 2)
    → (q < top → r ≡ n)
    → (top ≤ q → (x : ℕ) → member x learnt ≡ true → IsBelow trail top (opposite x) → ⊥)
    → HasTops trail top learnt n → HasTops trail top (learnt ++ opposite (literal_at trail q) ∷ []) r
tops_next trail top q n r learnt h a b f t = at (cases_lt q top)
  where
    at : (q < top) ⊎ (top ≤ q) → HasTops trail top (learnt ++ opposite (literal_at trail q) ∷ []) r
    at (inl k) = rw (b k) (tops_kept_below trail top q n learnt k t)
    at (inr k) = rw (a k) (tops_kept_top trail top q n learnt k h (f k) t)

pub some_clause : (o : Option Entry) (c d : List ℕ) → o ≡ Some (Clause c) → o ≡ Some (Clause d) → c ≡ d
some_clause o c d a b = cc

pub reason_not_zero : (held : Held) (trail : List Step) (q : ℕ) → (reason_at trail q ≡ 0) ⊎ HasReason held trail q
    → (reason_at trail q ≡ 0 → ⊥) → HasReason held trail q
reason_not_zero held trail q (inl e) n = absurd (n e)
reason_not_zero held trail q (inr r) n = r

pub reason_or_clause : (held : Held) (trail : List Step) (q : ℕ) → (reason_at trail q ≡ 0) ⊎ HasReason held trail q
    → (reason_at trail q ≡ 0) ⊎ ((c : List ℕ) × (held (reason_at trail q) ≡ Some (Clause c)))
reason_or_clause held trail q (inl e) = inl e
reason_or_clause held trail q (inr r) = inr (r.clause, r.held_as)

-- what is learnt so far was set behind the top level's start
pub from_not_below : (held : Held) (trail : List Step) (top q x : ℕ) → IsTrail held trail → top ≤ q
    → IsFrom trail (q + 1) (opposite x) → IsBelow trail top (opposite x) → ⊥
from_not_below held trail top q x t h f b =
    t.once b.0 f.0 (let u = b.1 in let v = f.1 in omega arith) f.2 (b.2 ∙ sym f.3)
