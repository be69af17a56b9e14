-- A resolvent of its hints is accepted.
use Rattle.std.proofs.Common.{◌≡◌, ℕ, ◌⊎◌, ◌||◌, ◌&&◌, eqb, Bool, true, false, cond, List, [], ◌∷◌, refl, arith, inl}
use Rattle.std.proofs.Common.{inr, Some}
use Rattle.std.proofs.lemmas.Grind.{common_steps}
use Rattle.cnf_base.specs.declared.cnf.Entry.TheVariants.{Clause}
use Rattle.lrat_log.specs.declared.outcome.Effect.TheVariants.{Falsified, Sets}
use Rattle.lrat_log.specs.declared.outcome.Outcome.TheVariants.{Accepted}
use Rattle.cnf_base.specs.Literals.{opposite, member}
use Rattle.cnf_base.specs.Clauses.{has_opposites}
use Rattle.lrat_log.specs.declared.line.Line.{Line}
use Rattle.lrat_log.specs.declared.line.Line.TheVariants.{Add, Delete}
use Rattle.lrat_log.specs.Held.{Held, after_line}
use Rattle.lrat_log.specs.Accepted.{also, all_false, all_but, effect_at, effect_of_clause, effect_of_entry}
use Rattle.lrat_log.specs.Accepted.{outcome_of_hints, outcome_of_addition, IsAcceptedFrom}
use Rattle.lrat_log.specs.Learnt.{IsFalse, IsUnit, IsChain, IsResolvent, AreLearntFrom}

pub false_effect : (set : ℕ → Bool) (c : List ℕ) → IsFalse set c → effect_of_clause set c ≡ Falsified
false_effect set [] f = refl
false_effect set (x ∷ c) f =
    let h : set (opposite x) ≡ true = f x (grind (arith, common_steps)) in
    let r = false_effect set c (λ y s. f y (grind (arith, common_steps, s))) in
    rw h r

all_but_unit : (set : ℕ → Bool) (l : ℕ) (c : List ℕ)
    → ((x : ℕ) → member x c ≡ true → (x ≡ l) ⊎ (set (opposite x) ≡ true)) → all_but set l c ≡ true
all_but_unit set l [] o = refl
all_but_unit set l (x ∷ c) o =
    let r = all_but_unit set l c (λ y s. o y (grind (arith, common_steps, s))) in
    at (o x (grind (arith, common_steps))) r
  where
    at : (x ≡ l) ⊎ (set (opposite x) ≡ true) → all_but set l c ≡ true
        → ((eqb x l || set (opposite x)) && all_but set l c) ≡ true
    at (inl e) r = grind (arith, common_steps, e, r)
    at (inr e) r = grind (arith, common_steps, e, r)

pub unit_effect : (set : ℕ → Bool) (c : List ℕ) (l : ℕ) → IsUnit set c l → effect_of_clause set c ≡ Sets l
unit_effect set [] l u = let s = u.stands in absurd (cc)
unit_effect set (x ∷ c) l u =
    at (set (opposite x)) refl (λ f m. unit_effect set c l
    (record {
      stands = m;
      not_true = u.not_true;
      not_false = u.not_false;
      others_false = λ y s. u.others_false y
          (grind (arith, common_steps, s));
    }))
  where
    at : (b : Bool) → set (opposite x) ≡ b
        → (set (opposite x) ≡ true → member l c ≡ true → effect_of_clause set c ≡ Sets l)
        → cond b (effect_of_clause set c) (effect_at set x c) ≡ Sets l
    at true e r =
        let s = u.stands in
        let n = u.not_false in
        r e (grind (arith, common_steps, s, n, e))
    at false e r = first (u.others_false x (grind (arith, common_steps)))
      where
        first : (x ≡ l) ⊎ (set (opposite x) ≡ true) → effect_at set x c ≡ Sets l
        first (inr f) = absurd (cc)
        first (inl q) =
            let a = all_but_unit set l c (λ y s. u.others_false y (grind (arith, common_steps, s))) in
            let n = u.not_true in
            rw (q, n, a) refl

held_false : (held : Held) (set : ℕ → Bool) (h : ℕ) (c : List ℕ) → held h ≡ Some (Clause c) → IsFalse set c
    → effect_of_entry set (held h) ≡ Falsified
held_false held set h c e f = rw e (false_effect set c f)

held_unit : (held : Held) (set : ℕ → Bool) (h : ℕ) (c : List ℕ) (l : ℕ) → held h ≡ Some (Clause c) → IsUnit set c l
    → effect_of_entry set (held h) ≡ Sets l
held_unit held set h c l e u = rw e (unit_effect set c l u)

pub chain_accepted : (held : Held) (hs : List ℕ) (set : ℕ → Bool) → IsChain held hs set
    → outcome_of_hints held hs set ≡ Accepted
chain_accepted held [] set k = absurd k
chain_accepted held (h ∷ []) set k = rw (held_false held set h k.0 k.1 k.2) refl
chain_accepted held (h ∷ (g ∷ gs)) set k =
    rw (held_unit held set h k.0 k.1 k.2 k.3) (chain_accepted held (g ∷ gs) (also set k.1) k.5)

pub resolvent_accepted : (held : Held) (ls hints : List ℕ) → IsResolvent held ls hints
    → outcome_of_addition held ls hints ≡ Accepted
resolvent_accepted held ls hints r = at (has_opposites ls) (chain_accepted held hints (all_false ls) r.chain)
  where
    at : (b : Bool) → outcome_of_hints held hints (all_false ls) ≡ Accepted
        → cond b Accepted (outcome_of_hints held hints (all_false ls)) ≡ Accepted
    at true e = refl
    at false e = e

-- a log of learnt additions is accepted
pub learnt_accepted : (n : ℕ) (held : Held) (last : ℕ) (lines : List Line) → AreLearntFrom n held last lines
    → IsAcceptedFrom n held last lines
learnt_accepted n held last [] a = tt
learnt_accepted n held last (Add id ls hints ∷ lines) a = (
  a.0,
  resolvent_accepted held ls hints a.1.resolvent,
  learnt_accepted n
      (after_line held (Add id ls hints)) id lines a.2,
)
learnt_accepted n held last (Delete id ids ∷ lines) a = absurd a
