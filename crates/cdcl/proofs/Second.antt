-- The place behind the newest learnt literal below the top level.
use Rattle.std.proofs.Common.{◌≡◌, ℕ, ◌+◌, ◌-◌, ◌<◌, ◌≤◌, ◌⊎◌, ◌||◌, Bool, true, false, List, [], ◌∷◌, ◌++◌, length}
use Rattle.std.proofs.Common.{refl, arith, ap, sym, subst, ◌∙◌, inl, inr}
use Rattle.std.proofs.lemmas.Grind.{common_steps}
use Rattle.std.proofs.lemmas.Bool.{cases_lt}
use Rattle.cnf_base.specs.Literals.{opposite, member}
use Rattle.cdcl.proofs.Literals.{opposite-opposite, member-append}
use Rattle.cdcl.specs.declared.trail.Step.{Step}
use Rattle.cdcl.specs.Trail.{literal_at, IsBelow, IsFrom}
use Rattle.cdcl.specs.Learning.{AreBeforeSecond, IsSecond}

pub from_down_one : (t q second : ℕ) → {n : ℕ} → n ≤ t → (second ≡ 0) ⊎ (t ≤ second) → (second ≡ 0) ⊎ (n ≤ second)
from_down_one t q second h (inl e) = inl e
from_down_one t q second h (inr e) = inr (omega arith)

pub second_next : (trail : List Step) (top q second second' : ℕ) (learnt : List ℕ) → q < length trail
    → (top ≤ q → second' ≡ second) → (q < top → second ≡ 0 → second' ≡ q + 1)
    → (q < top → 0 < second → second' ≡ second)
    → (second ≡ 0) ⊎ (q + 1 ≤ second) → AreBeforeSecond trail top learnt second
    → AreBeforeSecond trail top (learnt ++ opposite (literal_at trail q) ∷ []) second'
second_next trail top q second second' learnt h a b c o s x m =
    at (member x learnt) refl (member-append x learnt (opposite (literal_at trail q) ∷ []))
  where
    grow : (x : ℕ) → (second ≡ 0) ⊎ (second' ≡ second) → IsFrom trail top (opposite x)
        ⊎ IsBelow trail second (opposite x) → IsFrom trail top (opposite x) ⊎ IsBelow trail second' (opposite x)
    grow x k (inl f) = inl f
    grow x (inl z) (inr f) = absurd (let r = f.1 in omega arith)
    grow x (inr e) (inr f) = inr (f.0, (let r = f.1 in omega arith), f.2)

    which : (second ≡ 0) ⊎ (second' ≡ second)
    which = two (cases_lt q top) (cases_lt 0 second)
      where
        two : (q < top) ⊎ (top ≤ q) → (0 < second) ⊎ (second ≤ 0) → (second ≡ 0) ⊎ (second' ≡ second)
        two (inr k) r = inr (a k)
        two (inl k) (inl r) = inr (c k r)
        two (inl k) (inr r) = inl (omega arith)

    here : (q < top) ⊎ (top ≤ q) → (0 < second) ⊎ (second ≤ 0) → (second ≡ 0) ⊎ (q + 1 ≤ second)
        → IsFrom trail top (literal_at trail q) ⊎ IsBelow trail second' (literal_at trail q)
    here (inr k) r p = inl (q, k, h, refl)
    here (inl k) (inr r) p = inr (q, (let e = b k (omega arith) in omega arith), refl)
    here (inl k) (inl r) (inl z) = absurd (omega arith)
    here (inl k) (inl r) (inr z) = inr (q, (let e = c k r in omega arith), refl)

    at : (t : Bool) → member x learnt ≡ t → member x (learnt ++ opposite (literal_at trail q) ∷ [])
        ≡ (member x learnt || member x (opposite (literal_at trail q) ∷ []))
        → IsFrom trail top (opposite x) ⊎ IsBelow trail second' (opposite x)
    at true e k = grow x which (s x e)
    at false e k =
        let xe : x ≡ opposite (literal_at trail q) = grind (arith, common_steps, e, k, m) in
        let oe : literal_at trail q ≡ opposite x =
        sym (opposite-opposite (literal_at trail q)) ∙ ap opposite (sym xe) in
        subst (λ (y : ℕ). IsFrom trail top y ⊎ IsBelow trail second' y) oe (here (cases_lt q top) (cases_lt 0 second) o)

pub second_from : (top q second second' : ℕ) → (top ≤ q → second' ≡ second) → (q < top → second ≡ 0 → second' ≡ q + 1)
    → (q < top → 0 < second → second' ≡ second)
    → (second ≡ 0) ⊎ (q + 1 ≤ second) → second ≤ top → ((second' ≡ 0) ⊎ (q ≤ second')) × (second' ≤ top)
second_from top q second second' a b c o l = two (cases_lt q top) (cases_lt 0 second) o
  where
    two : (q < top) ⊎ (top ≤ q) → (0 < second) ⊎ (second ≤ 0) → (second ≡ 0) ⊎ (q + 1 ≤ second)
        → ((second' ≡ 0) ⊎ (q ≤ second')) × (second' ≤ top)
    two (inr k) r (inl z) = let e = a k in (inl (omega arith), omega arith)
    two (inr k) r (inr z) = let e = a k in (inr (omega arith), omega arith)
    two (inl k) (inr r) p = let e = b k (omega arith) in (inr (omega arith), omega arith)
    two (inl k) (inl r) (inl z) = absurd (omega arith)
    two (inl k) (inl r) (inr z) = let e = c k r in (inr (omega arith), omega arith)

-- the literal just before second is learnt
pub second_stands : (trail : List Step) (top q second second' : ℕ) (learnt : List ℕ)
    → (top ≤ q → second' ≡ second) → (q < top → second ≡ 0 → second' ≡ q + 1)
    → (q < top → 0 < second → second' ≡ second)
    → IsSecond trail learnt second → IsSecond trail (learnt ++ opposite (literal_at trail q) ∷ []) second'
second_stands trail top q second second' learnt a b c s h = two (cases_lt q top) (cases_lt 0 second)
  where
    old : second' ≡ second → member (opposite (literal_at trail (second' - 1)))
        (learnt ++ opposite (literal_at trail q) ∷ []) ≡ true
    old e =
        let m : member (opposite (literal_at trail (second' - 1))) learnt ≡ true =
        ap (λ (n : ℕ). member (opposite (literal_at trail (n - 1))) learnt) e ∙ s (omega arith) in
        let k = member-append (opposite (literal_at trail (second' - 1))) learnt (opposite (literal_at trail q) ∷ []) in
        grind (arith, common_steps, k, m)

    two : (q < top) ⊎ (top ≤ q) → (0 < second) ⊎ (second ≤ 0)
        → member (opposite (literal_at trail (second' - 1))) (learnt ++ opposite (literal_at trail q) ∷ []) ≡ true
    two (inr k) r = old (a k)
    two (inl k) (inl r) = old (c k r)
    two (inl k) (inr r) =
        let e : second' - 1 ≡ q = (let z = b k (omega arith) in omega arith) in
        let m = member-append (opposite (literal_at trail q)) learnt (opposite (literal_at trail q) ∷ []) in
        ap (λ (n : ℕ). member (opposite (literal_at trail n)) (learnt ++ opposite (literal_at trail q) ∷ [])) e
        ∙ grind (arith, common_steps, m)
