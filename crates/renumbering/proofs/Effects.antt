-- What hints do under names.
use Rattle.std.proofs.Common.{◌≡◌, ℕ, ◌||◌, ◌&&◌, eqb, Bool, true, false, cond, List, [], ◌∷◌, length, map, refl, ap}
use Rattle.std.proofs.Common.{◌∙◌, Option, Some, None}
use Rattle.cnf_base.specs.declared.cnf.Entry.{Entry}
use Rattle.cnf_base.specs.declared.cnf.Entry.TheVariants.{Clause, True}
use Rattle.cnf_base.specs.Literals.{opposite, IsLiteral, AreLiterals}
use Rattle.lrat_log.specs.declared.outcome.Effect.TheVariants.{Sets, Useless}
use Rattle.lrat_log.specs.declared.outcome.Outcome.{Outcome}
use Rattle.lrat_log.specs.Held.{Held}
use Rattle.lrat_log.specs.Accepted.{also, all_but, effect_at, effect_of_clause, effect_of_entry, by_effect}
use Rattle.lrat_log.specs.Accepted.{outcome_of_hints}
use Rattle.renumbering.specs.Named.{named}
use Rattle.cnf_base.specs.Rising.{AreRising}
use Rattle.renumbering.proofs.Naming.{named_eqb}
use Rattle.renumbering.proofs.Sets.{named_option, IsHeldAs, AreSetAs, set_opposite, also_named}

module _ (most : ℕ) (names : List ℕ) (rising : AreRising most 0 names) where
  all_but_named : (s t : ℕ → Bool) (l : ℕ) (c : List ℕ) → AreSetAs names s t → IsLiteral (length names) l
      → AreLiterals (length names) c
      → all_but t (named names l) (map (named names) c) ≡ all_but s l c
  all_but_named s t l [] a h o = refl
  all_but_named s t l (x ∷ c) a h o =
      ap (λ (b : Bool). (b || t (opposite (named names x))) && all_but t (named names l) (map (named names) c))
      (named_eqb most names rising x l o.0 h)
      ∙ ap (λ (b : Bool). (eqb x l || b) && all_but t (named names l) (map (named names) c))
      (set_opposite most names rising s t x a o.0)
      ∙ ap (λ (b : Bool). (eqb x l || s (opposite x)) && b) (all_but_named s t l c a h o.1)

  effect_named : (s t : ℕ → Bool) (after before : ℕ → Outcome) (c : List ℕ) → AreSetAs names s t
      → AreLiterals (length names) c
      → ((l : ℕ) → IsLiteral (length names) l → after (named names l) ≡ before l)
      → by_effect (effect_of_clause t (map (named names) c)) after ≡ by_effect (effect_of_clause s c) before
  effect_named s t after before [] a o n = refl
  effect_named s t after before (l ∷ ls) a o n =
      ap (λ (b : Bool). by_effect (cond b (effect_of_clause t (map (named names) ls))
      (effect_at t (named names l) (map (named names) ls))) after) (set_opposite most names rising s t l a o.0)
      ∙ at (s (opposite l)) (effect_named s t after before ls a o.1 n)
    where
      sets : (b : Bool) → by_effect (cond b (Sets (named names l)) Useless) after ≡ by_effect
          (cond b (Sets l) Useless) before
      sets true = n l o.0
      sets false = refl

      unset : (b : Bool) → by_effect (cond b Useless
          (cond (all_but s l ls) (Sets (named names l)) Useless)) after ≡ by_effect
          (cond b Useless (cond (all_but s l ls) (Sets l) Useless)) before
      unset true = refl
      unset false = sets (all_but s l ls)

      here : by_effect (effect_at t (named names l) (map (named names) ls)) after ≡ by_effect (effect_at s l ls) before
      here =
          ap (λ (b : Bool). by_effect (cond b Useless
          (cond (all_but t (named names l) (map (named names) ls)) (Sets (named names l)) Useless)) after) (a l o.0)
          ∙ ap (λ (b : Bool). by_effect (cond (s l) Useless (cond b (Sets (named names l)) Useless)) after)
          (all_but_named s t l ls a o.0 o.1)
          ∙ unset (s l)

      at : (b : Bool) → by_effect (effect_of_clause t (map (named names) ls)) after ≡ by_effect
          (effect_of_clause s ls) before
          → by_effect (cond b (effect_of_clause t (map (named names) ls))
          (effect_at t (named names l) (map (named names) ls))) after
          ≡ by_effect (cond b (effect_of_clause s ls) (effect_at s l ls)) before
      at true r = r
      at false r = here

  pub outcome_named : (dense held : Held) → IsHeldAs names dense held → (hints : List ℕ) (s t : ℕ → Bool)
      → AreSetAs names s t
      → outcome_of_hints held hints t ≡ outcome_of_hints dense hints s
  outcome_named dense held alike [] s t a = refl
  outcome_named dense held alike (h ∷ hs) s t a =
      ap (λ (e : Option Entry). by_effect (effect_of_entry t e) (λ l. outcome_of_hints held hs (also t l)))
      (alike.same h)
      ∙ at (dense h) refl (λ l i. outcome_named dense held alike hs (also s l) (also t (named names l))
      (also_named most names rising s t l a i))
    where
      at : (e : Option Entry) → dense h ≡ e
          → ((l : ℕ) → IsLiteral (length names) l
          → outcome_of_hints held hs (also t (named names l)) ≡ outcome_of_hints dense hs (also s l))
          → by_effect (effect_of_entry t (named_option names e)) (λ l. outcome_of_hints held hs (also t l)) ≡ by_effect
          (effect_of_entry s e) (λ l. outcome_of_hints dense hs (also s l))
      at None q r = refl
      at (Some True) q r = refl
      at (Some (Clause c)) q r =
          effect_named s t (λ l. outcome_of_hints held hs (also t l)) (λ l. outcome_of_hints dense hs (also s l)) c a
          (alike.over h c q) r
