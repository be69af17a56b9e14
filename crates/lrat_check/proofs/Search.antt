-- A search among rows whose ids increase.
use Rattle.std.proofs.Common.{◌≡◌, ℕ, zero, suc, ◌+◌, ◌<◌, ◌≤◌, Bool, true, false, List, [], ◌∷◌, length, get_or}
use Rattle.std.proofs.Common.{refl, arith, None}
use Rattle.std.proofs.lemmas.Grind.{common_steps}
use Rattle.std.proofs.lemmas.List.{get_or_default}
use Rattle.lrat_check.specs.declared.spans.Span.{Span}
use Rattle.std.proofs.Common.{not, slice_range}
use Rattle.lrat_log.specs.declared.outcome.Effect.TheVariants.{Unknown, Useless}
use Rattle.lrat_log.specs.Accepted.{effect_of_entry, effect_of_clause}
use Rattle.lrat_check.specs.Spans.{AreSorted, held_in, entry_of_span}

pub below_mid : (rows : List Span) (id mid : ℕ) (e : Span) → AreSorted rows → mid < length rows
    → (get_or rows mid e).id < id
    → (k : ℕ) (d : Span) → k < mid + 1 → (get_or rows k d).id < id
below_mid rows id mid e s h b k d l =
    let same : get_or rows mid d ≡ get_or rows mid e = get_or_default rows mid d e h in
    let b2 : (get_or rows mid d).id < id = rw (same) b in
    let o = s k mid d in
    grind (arith, o, b2, l, h)

pub above_mid : (rows : List Span) (id mid : ℕ) (e : Span) → AreSorted rows → mid < length rows
    → id ≤ (get_or rows mid e).id
    → (k : ℕ) (d : Span) → mid ≤ k → k < length rows → id ≤ (get_or rows k d).id
above_mid rows id mid e s h b k d l g =
    let same : get_or rows mid d ≡ get_or rows mid e = get_or_default rows mid d e h in
    let b2 : id ≤ (get_or rows mid d).id = rw (same) b in
    let o = s mid k d in
    grind (arith, o, b2, l, h, g)

pub not_found : (rows : List Span) (id low : ℕ) (e : Span) → AreSorted rows
    → ((k : ℕ) (d : Span) → k < low → (get_or rows k d).id < id)
    → ((k : ℕ) (d : Span) → low ≤ k → k < length rows → id ≤ (get_or rows k d).id)
    → (low < length rows → (get_or rows low e).id ≡ id → ⊥)
    → (k : ℕ) (d : Span) → k < length rows → (get_or rows k d).id ≡ id → ⊥
not_found rows id low e s b a n k d h q =
    let b1 = b k d in
    let a1 = a low d (omega arith) in
    let o = s low k d in
    let same = get_or_default rows low d e in
    grind (arith, b1, a1, o, n, h, q, same)

-- the rows of the tail are sorted, and above the head
sorted_tail : (r : Span) (rows : List Span) → AreSorted (r ∷ rows) → AreSorted rows
sorted_tail r rows s i j d h g = s (suc i) (suc j) d (omega arith) (omega arith)

pub held_at : (literals : List ℕ) (rows : List Span) (id i : ℕ) (d : Span) → AreSorted rows → i < length rows
    → (get_or rows i d).id ≡ id → held_in literals rows id ≡ entry_of_span literals (get_or rows i d)
held_at literals [] id i d s h e = absurd (omega arith)
held_at literals (r ∷ rows) id zero d s h e = grind (arith, common_steps, e)
held_at literals (r ∷ rows) id (suc i) d s h e =
    let o = s zero (suc i) d (omega arith) h in
    let ih = held_at literals rows id i d (sorted_tail r rows s) (omega arith) e in
    grind (arith, common_steps, o, ih, e)

pub held_nowhere : (literals : List ℕ) (rows : List Span) (id : ℕ)
    → ((k : ℕ) (d : Span) → k < length rows → (get_or rows k d).id ≡ id → ⊥) → held_in literals rows id ≡ None
held_nowhere literals [] id n = refl
held_nowhere literals (r ∷ rows) id n =
    let ih = held_nowhere literals rows id (λ k d h e. n (suc k) d (omega arith) e) in
    let o = n zero r (omega arith) in
    grind (arith, common_steps, ih, o)

abbrev pub no_span : Span
no_span = record { id = 0; start = 0; end = 0; is_true = false; is_held = false }

pub effect_not_held : (set : ℕ → Bool) (literals : List ℕ) (r : Span) → not r.is_held ≡ true
    → Unknown ≡ effect_of_entry set (entry_of_span literals r)
effect_not_held set literals r h = grind (arith, common_steps)

pub effect_always_true : (set : ℕ → Bool) (literals : List ℕ) (r : Span) → not r.is_held ≡ false → r.is_true ≡ true
    → Useless ≡ effect_of_entry set (entry_of_span literals r)
effect_always_true set literals r h t = grind (arith, common_steps)

pub effect_of_held : (set : ℕ → Bool) (literals : List ℕ) (r : Span) → not r.is_held ≡ false → r.is_true ≡ false
    → effect_of_clause set (slice_range literals r.start r.end) ≡ effect_of_entry set (entry_of_span literals r)
effect_of_held set literals r h t = grind (arith, common_steps)
