-- The steps of the loops over a clause and over hints.
use Rattle.std.proofs.Common.{◌≡◌, ℕ, ◌+◌, ◌<◌, ◌||◌, ◌&&◌, eqb, Bool, false, cond, List, length, get_or, drop, ap}
use Rattle.std.proofs.Common.{sym, ◌∙◌}
use Rattle.std.proofs.lemmas.List.{drop_more}
use Rattle.lrat_log.specs.declared.outcome.Effect.{Effect}
use Rattle.lrat_log.specs.declared.outcome.Effect.TheVariants.{Sets}
use Rattle.cnf_base.specs.Literals.{opposite}
use Rattle.cnf_base.specs.Clauses.{has_opposites}
use mathlib.Core.Path.{fun_ext}
use Rattle.lrat_log.specs.declared.outcome.Outcome.{Outcome}
use Rattle.lrat_log.specs.Held.{Held}
use Rattle.lrat_log.specs.Accepted.{all_false, outcome_of_addition, all_but, effect_of_clause, effect_at}
use Rattle.lrat_log.specs.Accepted.{outcome_of_hints, by_effect, effect_of_entry, also}

pub all_but_step : (set : ℕ → Bool) (l : ℕ) (c : List ℕ) (i : ℕ) → i < length c
    → all_but set l (drop i c) ≡ ((eqb (get_or c i 0) l || set (opposite (get_or c i 0))) && all_but set l
    (drop (i + 1) c))
all_but_step set l c i h = ap (all_but set l) (drop_more c i 0 h)

pub effect_step : (set : ℕ → Bool) (c : List ℕ) (i : ℕ) → i < length c
    → effect_of_clause set (drop i c)
    ≡ cond (set (opposite (get_or c i 0))) (effect_of_clause set (drop (i + 1) c))
    (effect_at set (get_or c i 0) (drop (i + 1) c))
effect_step set c i h = ap (effect_of_clause set) (drop_more c i 0 h)

pub outcome_step : (held : Held) (hs : List ℕ) (set : ℕ → Bool) (i : ℕ) → i < length hs
    → outcome_of_hints held (drop i hs) set
    ≡ by_effect (effect_of_entry set (held (get_or hs i 0))) (λ l. outcome_of_hints held (drop (i + 1) hs) (also set l))
outcome_step held hs set i h = ap (λ (ks : List ℕ). outcome_of_hints held ks set) (drop_more hs i 0 h)

pub hint_sets : (held : Held) (hs : List ℕ) (set : ℕ → Bool) (i l : ℕ) → i < length hs
    → Sets l ≡ effect_of_entry set (held (get_or hs i 0))
    → outcome_of_hints held (drop i hs) set ≡ outcome_of_hints held (drop (i + 1) hs) (also set l)
hint_sets held hs set i l h e =
    let w : by_effect (Sets l) (λ k. outcome_of_hints held (drop (i + 1) hs) (also set k))
    ≡ by_effect (effect_of_entry set (held (get_or hs i 0)))
    (λ k. outcome_of_hints held (drop (i + 1) hs) (also set k)) = ap
    (λ (f : Effect). by_effect f (λ k. outcome_of_hints held (drop (i + 1) hs) (also set k))) e in
    outcome_step held hs set i h ∙ sym w

pub addition_runs : (held : Held) (ls hints : List ℕ) (set : ℕ → Bool) (r : Outcome) → has_opposites ls ≡ false
    → ((x : ℕ) → set x ≡ all_false ls x)
    → r ≡ outcome_of_hints held hints set → r ≡ outcome_of_addition held ls hints
addition_runs held ls hints set r n m e =
    let same : set ≡ all_false ls = fun_ext m in
    let e2 : r ≡ outcome_of_hints held hints (all_false ls) = e ∙ ap (outcome_of_hints held hints) same in
    rw n e2
