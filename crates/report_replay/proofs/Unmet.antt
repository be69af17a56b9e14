-- The first demand that is not met.
use Rattle.std.proofs.Common.{◌≡◌, ℕ, zero, suc, ◌+◌, ◌-◌, ◌<◌, ◌≤◌, Bool, true, false, List, [], ◌∷◌, ◌++◌, Some}
use Rattle.std.proofs.Common.{None, Option, map, refl, sym, ap, ◌∙◌, cond, arith}
use Rattle.std.specs.Prelude.{not}
use Rattle.std.specs.Option.{option_or}
use Rattle.base.specs.Lists.{count_from}
use Rattle.report_replay.specs.Demands.{Demand}
use Rattle.report_replay.specs.Judgements.{first_unmet}
use Rattle.report_replay.specs.declared.judged.Fault.{Fault}

pub unmet_append : (xs ys : List Demand) → first_unmet (xs ++ ys) ≡ option_or (first_unmet xs) (first_unmet ys)
unmet_append [] ys = refl
unmet_append (d ∷ ds) ys = by d.met (unmet_append ds ys)
  where
    by : (t : Bool) → first_unmet (ds ++ ys) ≡ option_or (first_unmet ds) (first_unmet ys)
        → cond t (first_unmet (ds ++ ys)) (Some (record { line = d.line; code = d.code }))
        ≡ option_or (cond t (first_unmet ds) (Some (record { line = d.line; code = d.code }))) (first_unmet ys)
    by true h = h
    by false h = refl

-- a demand for each number from k up to c: one turn, and the end
pub unmet_turn : (D : ℕ → Demand) (k c : ℕ) → k < c
    → first_unmet (map D (count_from k (c - k)))
    ≡ cond (D k).met (first_unmet (map D (count_from (k + 1) (c - (k + 1)))))
    (Some (record { line = (D k).line; code = (D k).code }))
unmet_turn D k c lt =
    let e : c - k ≡ suc (c - (k + 1)) = omega arith in
    let f : suc k ≡ k + 1 = omega arith in
    ap (λ n. first_unmet (map D (count_from k n))) e
    ∙ ap (λ j. cond (D k).met (first_unmet (map D (count_from j (c - (k + 1)))))
    (Some (record { line = (D k).line; code = (D k).code }))) f

pub unmet_end : (D : ℕ → Demand) (k c : ℕ) → c ≤ k → first_unmet (map D (count_from k (c - k))) ≡ None
unmet_end D k c le =
    let e : c - k ≡ 0 = omega arith in ap (λ n. first_unmet (map D (count_from k n))) e

pub unmet_met : (D : ℕ → Demand) (k c : ℕ) (whole : Option Fault) → k < c → (D k).met ≡ true
    → first_unmet (map D (count_from k (c - k))) ≡ whole
    → first_unmet (map D (count_from (k + 1) (c - (k + 1)))) ≡ whole
unmet_met D k c whole lt met h =
    sym (ap (λ t. cond t (first_unmet (map D (count_from (k + 1) (c - (k + 1)))))
    (Some (record { line = (D k).line; code = (D k).code }))) met) ∙ sym (unmet_turn D k c lt) ∙ h

pub unmet_here : (D : ℕ → Demand) (k c : ℕ) (whole : Option Fault) → k < c → (D k).met ≡ false
    → first_unmet (map D (count_from k (c - k))) ≡ whole
    → Some (record { line = (D k).line; code = (D k).code }) ≡ whole
unmet_here D k c whole lt met h =
    sym (ap (λ t. cond t (first_unmet (map D (count_from (k + 1) (c - (k + 1)))))
    (Some (record { line = (D k).line; code = (D k).code }))) met) ∙ sym (unmet_turn D k c lt) ∙ h

pub unmet_first : (xs ys : List Demand) (f : Fault) → first_unmet xs ≡ Some f → Some f ≡ first_unmet (xs ++ ys)
unmet_first xs ys f e = sym (unmet_append xs ys ∙ ap (λ o. option_or o (first_unmet ys)) e)

pub unmet_second : (xs ys : List Demand) (o : Option Fault) → first_unmet xs ≡ None → o ≡ first_unmet ys
    → o ≡ first_unmet (xs ++ ys)
unmet_second xs ys o e f = f ∙ sym (unmet_append xs ys ∙ ap (λ p. option_or p (first_unmet ys)) e)

-- of one demand
pub unmet_one : (d : Demand) → d.met ≡ false → Some (record { line = d.line; code = d.code }) ≡ first_unmet (d ∷ [])
unmet_one d e = sym (ap (λ t. cond t None (Some (record { line = d.line; code = d.code }))) e)

pub met_one : (d : Demand) → d.met ≡ true → None ≡ first_unmet (d ∷ [])
met_one d e = sym (ap (λ t. cond t None (Some (record { line = d.line; code = d.code }))) e)

pub negated : (b : Bool) → not b ≡ true → b ≡ false
negated true e = cc e
negated false e = refl

pub affirmed : (b : Bool) → not b ≡ false → b ≡ true
affirmed true e = refl
affirmed false e = cc e
