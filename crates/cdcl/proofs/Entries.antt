-- Clauses by their ids.
use Rattle.std.proofs.Common.{◌≡◌, ℕ, zero, suc, ◌+◌, ◌-◌, ◌<◌, ◌≤◌, ◌⊎◌, eqb, Bool, true, false, cond, List, [], ◌∷◌}
use Rattle.std.proofs.Common.{◌++◌, length, length-append, slice_get, refl, arith, ap, sym, ◌∙◌, inl, inr, Some, None}
use Rattle.std.proofs.lemmas.Grind.{common_steps}
use Rattle.std.proofs.lemmas.Option.{slice_get_within}
use Rattle.cnf_base.specs.declared.cnf.Entry.{Entry}
use Rattle.lrat_log.specs.Held.{held_by}

pub held_at : (es : List Entry) (k : ℕ) → held_by es (k + 1) ≡ slice_get es k
held_at es k =
    let a : eqb (k + 1) 0 ≡ false = grind (arith, common_steps) in
    let b : k + 1 - 1 ≡ k = omega arith in
    ap (λ (t : Bool). cond t None (slice_get es (k + 1 - 1))) a ∙ ap (slice_get es) b

pub held_place : (es : List Entry) (k : ℕ) (e : Entry) → held_by es (k + 1) ≡ Some e → k < length es
held_place es k e h = slice_get_within es k e (sym (held_at es k) ∙ h)

-- an id of a held clause
pub held_id : (es : List Entry) (id : ℕ) (e : Entry) → held_by es id ≡ Some e → (0 < id) × (id ≤ length es)
held_id es zero e h = absurd (cc)
held_id es (suc k) e h =
    let q : suc k ≡ k + 1 = omega arith in
    let l = held_place es k e (ap (held_by es) (sym q) ∙ h) in
    (omega arith, omega arith)

pub get_old : (es : List Entry) (x : Entry) (k : ℕ) → k < length es → slice_get (es ++ x ∷ []) k ≡ slice_get es k
get_old [] x k h = absurd (omega arith)
get_old (y ∷ es) x zero h = refl
get_old (y ∷ es) x (suc k) h = get_old es x k (omega arith)

get_new : (es : List Entry) (x : Entry) → slice_get (es ++ x ∷ []) (length es) ≡ Some x
get_new [] x = refl
get_new (y ∷ es) x = get_new es x

-- one more entry
pub held_old : (es : List Entry) (x e : Entry) (id : ℕ) → held_by es id ≡ Some e → held_by (es ++ x ∷ []) id ≡ Some e
held_old es x e zero h = absurd (cc)
held_old es x e (suc k) h =
    let q : suc k ≡ k + 1 = omega arith in
    let g = ap (held_by es) (sym q) ∙ h in
    ap (held_by (es ++ x ∷ [])) q ∙ held_at (es ++ x ∷ []) k ∙ get_old es x k (held_place es k e g) ∙ sym (held_at es k)
    ∙ g

pub held_new : (es : List Entry) (x : Entry) → held_by (es ++ x ∷ []) (length es + 1) ≡ Some x
held_new es x = held_at (es ++ x ∷ []) (length es) ∙ get_new es x

-- what is held with one more entry was held before, or is the new one
pub held_either : (es : List Entry) (x e : Entry) (id : ℕ) → held_by (es ++ x ∷ []) id ≡ Some e
    → (held_by es id ≡ Some e) ⊎ ((id ≡ length es + 1) × (x ≡ e))
held_either es x e zero h = absurd (cc)
held_either es x e (suc k) h = at (eqb k (length es)) refl
  where
    g : held_by (es ++ x ∷ []) (k + 1) ≡ Some e
    g = ap (held_by (es ++ x ∷ [])) (let q : k + 1 ≡ suc k = omega arith in q) ∙ h

    at : (b : Bool) → eqb k (length es) ≡ b → (held_by es (suc k) ≡ Some e) ⊎ ((suc k ≡ length es + 1) × (x ≡ e))
    at true q =
        let kn : k ≡ length es = grind (arith, common_steps, q) in
        let n : Some x ≡ Some e = sym (held_new es x) ∙ ap (λ (i : ℕ). held_by (es ++ x ∷ []) (i + 1)) (sym kn) ∙ g in
        inr (omega arith, cc)
    at false q =
        let l = held_place (es ++ x ∷ []) k e g in
        let n = length-append es (x ∷ []) in
        let lt : k < length es = grind (arith, common_steps, q, l, n) in
        inl (ap (held_by es) (let r : suc k ≡ k + 1 = omega arith in r) ∙ held_at es k ∙ sym (get_old es x k lt)
        ∙ sym (held_at (es ++ x ∷ []) k) ∙ g)
