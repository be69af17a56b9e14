-- A trail that grows.
use Rattle.std.proofs.Common.{◌≡◌, ℕ, zero, suc, ◌+◌, ◌<◌, ◌≤◌, ◌⊎◌, ◌||◌, eqb, Bool, true, false, if◌then◌else◌, List}
use Rattle.std.proofs.Common.{[], ◌∷◌, ◌++◌, length, length-append, get_or, refl, arith, ap, sym, subst, ◌∙◌, inl, inr}
use Rattle.std.proofs.lemmas.Grind.{common_steps}
use Rattle.std.proofs.lemmas.Bool.{cases_lt}
use Rattle.cdcl.specs.declared.trail.Step.{Step}
use Rattle.cdcl.specs.Trail.{no_step, literal_at, reason_at, was_set, is_set, free}
use Rattle.cdcl.specs.TrailValue.{TrailValue}
use Rattle.cdcl.specs.Growth.{Extends}
use Rattle.cdcl.specs.declared.state.State.{State}
use Rattle.cdcl_tables.specs.declared.watches.Watch.{Watch}
use Rattle.cdcl.specs.State.{Grows, IsVisiting}
use Rattle.cdcl.proofs.Trails.{get-push_old, get-push_new, all_set_push}

-- one more literal is set, of those below n or not
free_same : (set set' : ℕ → Bool) (l n : ℕ) → ((x : ℕ) → set' x ≡ (eqb l x || set x)) → n ≤ l → free set' n ≡ free set n
free_same set set' l zero a h = refl
free_same set set' l (suc n) a h =
    let r = free_same set set' l n a (omega arith) in
    let e = a n in
    let d : eqb l n ≡ false = grind (arith, common_steps, h) in
    let s : set' n ≡ set n = grind (arith, common_steps, e, d) in
    rw (s, r) refl

pub free_less : (set set' : ℕ → Bool) (l n : ℕ) → ((x : ℕ) → set' x ≡ (eqb l x || set x)) → set l ≡ false → l < n
    → free set' n + 1 ≡ free set n
free_less set set' l zero a u h = absurd (omega arith)
free_less set set' l (suc n) a u h = at (cases_lt l n) (λ k. free_less set set' l n a u k)
  where
    at : (l < n) ⊎ (n ≤ l) → (l < n → free set' n + 1 ≡ free set n)
        → ((if set' n then 0 else 1) + free set' n) + 1 ≡ (if set n then 0 else 1) + free set n
    at (inl k) r =
        let e = a n in
        let d : eqb l n ≡ false = grind (arith, common_steps, k) in
        let s : set' n ≡ set n = grind (arith, common_steps, e, d) in
        let g = r k in
        rw s (omega (arith, g))
    at (inr k) r =
        let ln : l ≡ n = omega arith in
        let g = free_same set set' l n a k in
        let s0 : set n ≡ false = ap set (sym ln) ∙ u in
        let e = a n in
        let s1 : set' n ≡ true = grind (arith, common_steps, e, ln) in
        rw (s0, s1) (omega (arith, g))

pub extends_refl : (t : TrailValue) → Extends t t
extends_refl t =
    record {
      size = refl;
      longer = omega arith;
      same = λ i h. refl;
      forced = λ i h k. absurd (omega arith);
      fewer = refl;
    }

pub extends_trans : (a b c : TrailValue) → Extends a b → Extends b c → Extends a c
extends_trans a b c f g = record {
  size = g.size ∙ f.size;
  longer = (let x = f.longer in let y = g.longer in omega arith);
  same = λ i h. g.same i (let x = f.longer in omega arith) ∙ f.same i h;
  forced = λ i h k. at i h k (cases_lt i (length b.steps));
  fewer = g.fewer ∙ f.fewer;
}
  where
    at : (i : ℕ) → length a.steps ≤ i → i < length c.steps → (i < length b.steps) ⊎ (length b.steps ≤ i)
        → reason_at c.steps i ≡ 0 → ⊥
    at i h k (inl q) e = f.forced i h q (ap (λ (x : Step). x.reason) (sym (g.same i q)) ∙ e)
    at i h k (inr q) e = g.forced i q k e

-- a forced literal
pub extends_push : (t u : TrailValue) (s : Step) → u.size ≡ t.size → u.steps ≡ t.steps ++ s ∷ []
    → is_set t.steps s.literal ≡ false → s.literal < t.size → (s.reason ≡ 0 → ⊥) → Extends t u
extends_push t u s z e n h r = record {
  size = z;
  longer = (let l = len in omega arith);
  same = λ i k. ap (λ (x : List Step). get_or x i no_step) e ∙ get-push_old t.steps s i k;
  forced = λ i a b q. r (sym (new i a b) ∙ q);
  fewer = rw (e, z) (let l = length-append t.steps (s ∷ []) in let f = less in omega arith);
}
  where
    len : length u.steps ≡ length t.steps + 1
    len = ap length e ∙ length-append t.steps (s ∷ [])

    less : free (is_set (t.steps ++ s ∷ [])) t.size + 1 ≡ free (is_set t.steps) t.size
    less = free_less (is_set t.steps) (is_set (t.steps ++ s ∷ [])) s.literal t.size (all_set_push t.steps s) n h

    new : (i : ℕ) → length t.steps ≤ i → i < length u.steps → reason_at u.steps i ≡ s.reason
    new i a b =
        let l = len in
        let q : i ≡ length t.steps = omega arith in
        ap (λ (x : List Step). reason_at x i) e ∙ ap (reason_at (t.steps ++ s ∷ [])) q
        ∙ ap (λ (x : Step). x.reason) (get-push_new t.steps s)

pub was_set-extends : (a b : TrailValue) (s l : ℕ) → Extends a b → s ≤ length a.steps
    → was_set b.steps s l ≡ was_set a.steps s l
was_set-extends a b zero l f h = refl
was_set-extends a b (suc s) l f h =
    let r = was_set-extends a b s l f (omega arith) in
    let e : literal_at b.steps s ≡ literal_at a.steps s = ap (λ (x : Step). x.literal) (f.same s (omega arith)) in
    rw (e, r) refl

pub grows_refl : (s : State) → Grows s s
grows_refl s = record { clauses = refl; extends = extends_refl s.trail; safe = λ n h a. a }

pub grows_trans : (a b c : State) → Grows a b → Grows b c → Grows a c
grows_trans a b c f g = record {
  clauses = g.clauses ∙ f.clauses;
  extends = extends_trans a.trail b.trail c.trail f.extends g.extends;
  safe = λ n h v. g.safe n (let x = f.extends.longer in omega arith) (f.safe n h v);
}

pub visiting_at : (s : State) (head : ℕ) (list : List Watch) (n m : ℕ) → n ≡ m → IsVisiting s head list n
    → IsVisiting s head list m
visiting_at s head list n m e v = subst (λ (k : ℕ). IsVisiting s head list k) e v
