-- A sentence is false exactly where some values for its leading quantifiers make its body false.
use Rattle.std.proofs.Common.{◌≡◌, inl, inr, ℕ, zero, suc, ◌<◌, Bool, true, false, ◌&&◌, List, [], ◌∷◌, refl, ap, ◌∙◌}
use Rattle.std.proofs.Common.{⊎_elim, arith}
use Rattle.std.proofs.lemmas.Bool.{cases_lt, and_cases}
use mathlib.Core.List.{reverse_aux}
use Rattle.fol_sig.specs.Tables.{Tables, InRange, reading, size_at}
use Rattle.fol_formula.specs.Syntax.{FormTree, top, bottom, rel, equal, negation, conjunction, disjunction, implication}
use Rattle.fol_formula.specs.Syntax.{equivalence, for_all, for_some}
use Rattle.fol_formula.specs.Truth.{truth, all_below}
use Rattle.rml_command.specs.Goals.{leading_sorts, body_of}
use Rattle.rml_command.specs.Laws.{FalsehoodHasValues}

pub some_below : (n : ℕ) (p : ℕ → Bool) → all_below n p ≡ false → (x : ℕ) × (x < n) × (p x ≡ false)
some_below zero p e = absurd (cc e)
some_below (suc n) p e =
    elim (and_cases (all_below n p) (p n) e) [
      | inl a ↦ (let r = some_below n p a in (r.0, omega (arith, r.1), r.2))
      | inr b ↦ (n, omega arith, b)
    ]

pub record Falsified (s : Tables) (c : FormTree) (env : List ℕ) : Type 0 where
  pub values : List ℕ
  pub in_range : InRange s.sizes (leading_sorts c) values
  pub body : truth (reading s) (body_of c) (reverse_aux values env) ≡ false

pub falsified : (s : Tables) (c : FormTree) (env : List ℕ) → truth (reading s) c env ≡ false → Falsified s c env
falsified s (for_all k p) env e =
    let w = some_below (size_at s k) (λ x. truth (reading s) p (x ∷ env)) e in
    let r = falsified s p (w.0 ∷ env) w.2 in
    record { values = w.0 ∷ r.values; in_range = (w.1, r.in_range); body = r.body }
falsified s top env e = record { values = []; in_range = tt; body = e }
falsified s bottom env e = record { values = []; in_range = tt; body = e }
falsified s (rel r args) env e = record { values = []; in_range = tt; body = e }
falsified s (equal a b) env e = record { values = []; in_range = tt; body = e }
falsified s (negation p) env e = record { values = []; in_range = tt; body = e }
falsified s (conjunction ps) env e = record { values = []; in_range = tt; body = e }
falsified s (disjunction ps) env e = record { values = []; in_range = tt; body = e }
falsified s (implication p q) env e = record { values = []; in_range = tt; body = e }
falsified s (equivalence p q) env e = record { values = []; in_range = tt; body = e }
falsified s (for_some k p) env e = record { values = []; in_range = tt; body = e }

and_false : (b : Bool) → b && false ≡ false
and_false true = refl
and_false false = refl

one_false : (n x : ℕ) (p : ℕ → Bool) → x < n → p x ≡ false → all_below n p ≡ false
one_false zero x p lt h = absurd (omega arith)
one_false (suc n) x p lt h =
    ⊎_elim
    (λ below. ap (λ b. b && p n) (one_false n x p below h))
    (λ last. let e : n ≡ x = omega arith in
    ap (λ m. all_below n p && p m) e ∙ ap (λ b. all_below n p && b) h ∙ and_false (all_below n p))
    (cases_lt x n)

-- values that make the body false make the sentence false
pub false_under : (s : Tables) (c : FormTree) (values env : List ℕ) → InRange s.sizes (leading_sorts c) values
    → truth (reading s) (body_of c) (reverse_aux values env) ≡ false → truth (reading s) c env ≡ false
false_under s (for_all k p) [] env h e = absurd h
false_under s (for_all k p) (x ∷ xs) env h e =
    let inner = false_under s p xs (x ∷ env) h.1 e in
    one_false (size_at s k) x (λ y. truth (reading s) p (y ∷ env)) h.0 inner
false_under s top [] env h e = e
false_under s top (x ∷ xs) env h e = absurd h
false_under s bottom [] env h e = e
false_under s bottom (x ∷ xs) env h e = absurd h
false_under s (rel r args) [] env h e = e
false_under s (rel r args) (x ∷ xs) env h e = absurd h
false_under s (equal a b) [] env h e = e
false_under s (equal a b) (x ∷ xs) env h e = absurd h
false_under s (negation p) [] env h e = e
false_under s (negation p) (x ∷ xs) env h e = absurd h
false_under s (conjunction ps) [] env h e = e
false_under s (conjunction ps) (x ∷ xs) env h e = absurd h
false_under s (disjunction ps) [] env h e = e
false_under s (disjunction ps) (x ∷ xs) env h e = absurd h
false_under s (implication p q) [] env h e = e
false_under s (implication p q) (x ∷ xs) env h e = absurd h
false_under s (equivalence p q) [] env h e = e
false_under s (equivalence p q) (x ∷ xs) env h e = absurd h
false_under s (for_some k p) [] env h e = e
false_under s (for_some k p) (x ∷ xs) env h e = absurd h

pub values_law : FalsehoodHasValues
values_law s c = (
  λ e. (let v = falsified s c [] e in (v.values, record { in_range = v.in_range; body = v.body })),
  λ v. false_under s c v.0 [] v.1.in_range v.1.body,
)
