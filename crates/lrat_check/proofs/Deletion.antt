-- The ids of a deletion, one after another.
use Rattle.std.proofs.Common.{◌≡◌, ℕ, zero, suc, ◌+◌, ◌<◌, ◌||◌, ◌⊎◌, eqb, Bool, true, false, cond, List, [], ◌∷◌}
use Rattle.std.proofs.Common.{length, get_or, set, take, drop, refl, arith, ap, sym, ◌∙◌, inl, inr, Some, None}
use Rattle.std.proofs.Common.{is_some}
use mathlib.Core.Path.{fun_ext}
use Rattle.std.proofs.lemmas.Grind.{common_steps}
use Rattle.std.proofs.lemmas.List.{get_or_default, length-set, drop_more}
use Rattle.lrat_log.specs.declared.refusal_code.RefusalCode.TheVariants.{UnknownId}
use Rattle.lrat_log.specs.declared.outcome.Outcome.TheVariants.{Refused}
use Rattle.cnf_base.specs.Literals.{member}
use Rattle.lrat_log.specs.Held.{Held, without}
use Rattle.lrat_log.specs.Accepted.{outcome_of_deletion}
use Rattle.lrat_check.specs.declared.spans.Span.{Span}
use Rattle.lrat_check.specs.Spans.{marked, held_in, entry_of_span, AreSorted, AreWithin}
use Rattle.lrat_check.proofs.Marked.{marked-set}
use Rattle.lrat_check.proofs.Search.{held_at, held_nowhere}

pub member_take_more : (x : ℕ) (xs : List ℕ) (i : ℕ) → i < length xs
    → member x (take (i + 1) xs) ≡ (member x (take i xs) || eqb x (get_or xs i 0))
member_take_more x [] i h = absurd (omega arith)
member_take_more x (y ∷ xs) zero h = grind (arith, common_steps)
member_take_more x (y ∷ xs) (suc i) h =
    let r = member_take_more x xs i (omega arith) in
    let next : suc i + 1 ≡ suc (i + 1) = omega arith in
    rw next (grind (arith, common_steps, r))

pub without_more : (held : Held) (ids : List ℕ) (i : ℕ) → i < length ids
    → without (without held (take i ids)) (get_or ids i 0 ∷ []) ≡ without held (take (i + 1) ids)
without_more held ids i h = fun_ext (λ k. at k)
  where
    at : (k : ℕ) → without (without held (take i ids)) (get_or ids i 0 ∷ []) k ≡ without held (take (i + 1) ids) k
    at k =
        let m = member_take_more k ids i h in
        grind (arith, common_steps, m)

pub deletion_step : (held : Held) (ids : List ℕ) (i : ℕ) → i < length ids
    → outcome_of_deletion (without held (take i ids)) (drop i ids)
    ≡ cond (is_some (without held (take i ids) (get_or ids i 0)))
    (outcome_of_deletion (without held (take (i + 1) ids)) (drop (i + 1) ids)) (Refused UnknownId)
deletion_step held ids i h =
    ap (outcome_of_deletion (without held (take i ids))) (drop_more ids i 0 h)
    ∙ ap (λ (w : Held). cond (is_some (without held (take i ids) (get_or ids i 0)))
    (outcome_of_deletion w (drop (i + 1) ids)) (Refused UnknownId)) (without_more held ids i h)

pub deletion_refused : (held : Held) (ids : List ℕ) (i : ℕ) → i < length ids
    → (is_some (held (get_or ids i 0)) ≡ false) ⊎ (member (get_or ids i 0) (take i ids) ≡ true)
    → outcome_of_deletion held ids ≡ outcome_of_deletion (without held (take i ids)) (drop i ids)
    → Refused UnknownId ≡ outcome_of_deletion held ids
deletion_refused held ids i h (inl n) e =
    let s = deletion_step held ids i h in
    let none : is_some (without held (take i ids) (get_or ids i 0))
    ≡ false = at (member (get_or ids i 0) (take i ids)) n in
    grind (arith, common_steps, s, none, e)
  where
    at : (b : Bool) → is_some (held (get_or ids i 0)) ≡ false → is_some (cond b None (held (get_or ids i 0))) ≡ false
    at true m = refl
    at false m = m
deletion_refused held ids i h (inr n) e =
    let s = deletion_step held ids i h in
    let none : is_some (without held (take i ids) (get_or ids i 0)) ≡ false = grind (arith, common_steps, n) in
    grind (arith, common_steps, s, none, e)

pub deletion_goes_on : (held : Held) (ids : List ℕ) (i : ℕ) → i < length ids
    → is_some (held (get_or ids i 0)) ≡ true → member (get_or ids i 0) (take i ids) ≡ false
    → outcome_of_deletion held ids ≡ outcome_of_deletion (without held (take i ids)) (drop i ids)
    → outcome_of_deletion held ids ≡ outcome_of_deletion (without held (take (i + 1) ids)) (drop (i + 1) ids)
deletion_goes_on held ids i h n m e =
    let s = deletion_step held ids i h in
    let some : is_some (without held (take i ids) (get_or ids i 0)) ≡ true = grind (arith, common_steps, n, m) in
    grind (arith, common_steps, s, some, e)

pub same_place : (rows : List Span) (i j : ℕ) (d : Span) → AreSorted rows → i < length rows → j < length rows
    → (get_or rows i d).id ≡ (get_or rows j d).id → i ≡ j
same_place rows i j d s h g e =
    let a = s i j d in
    let b = s j i d in
    grind (arith, a, b, e, h, g)

pub is_some-entry_of_span : (literals : List ℕ) (r : Span) → is_some (entry_of_span literals r) ≡ r.is_held
is_some-entry_of_span literals r = at r.is_held
  where
    at : (b : Bool)
        → is_some
        (cond b (Some (cond r.is_true Rattle.cnf_base.specs.declared.cnf.Entry.TheVariants.True
        (Rattle.cnf_base.specs.declared.cnf.Entry.TheVariants.Clause
        (Rattle.std.specs.List.slice_range literals r.start r.end)))) None) ≡ b
    at true = refl
    at false = refl

pub is_some_at : (literals : List ℕ) (rows : List Span) (id i : ℕ) (d : Span) → AreSorted rows → i < length rows
    → (get_or rows i d).id ≡ id → is_some (held_in literals rows id) ≡ (get_or rows i d).is_held
is_some_at literals rows id i d s h e = ap is_some (held_at literals rows id i d s h e)
    ∙ is_some-entry_of_span literals (get_or rows i d)

-- the row of the id at place i of the deletion is marked too
pub deletion_marks : (rows : List Span) (marks ids : List ℕ) (epoch i place : ℕ) → AreSorted rows → i < length ids
    → place < length rows
    → length marks ≡ length rows
    → ((d : Span) → (get_or rows place d).id ≡ get_or ids i 0)
    → ((k : ℕ) (d : Span) → k < length rows → marked marks epoch k ≡ member (get_or rows k d).id (take i ids))
    → (k : ℕ) (d : Span) → k < length rows → marked (set marks place epoch) epoch k
    ≡ member (get_or rows k d).id (take (i + 1) ids)
deletion_marks rows marks ids epoch i place s h g ln e m k d l =
    let a = marked-set marks epoch place (rw ln g) k in
    let b = member_take_more (get_or rows k d).id ids i h in
    let mk = m k d l in
    let ed = e d in
    let u = same_place rows k place d s l g in
    grind (arith, common_steps, a, b, mk, ed, u)

sorted_rest : (r : Span) (rows : List Span) → AreSorted (r ∷ rows) → AreSorted rows
sorted_rest r rows s i j d h g = s (suc i) (suc j) d (omega arith) (omega arith)

-- a row is no longer held
pub held_in_off : (literals : List ℕ) (rows : List Span) (place : ℕ) (d : Span) → AreSorted rows → place < length rows
    → (k : ℕ) → held_in literals (set rows place (record (get_or rows place d) { is_held = false })) k
    ≡ cond (eqb k (get_or rows place d).id) None (held_in literals rows k)
held_in_off literals [] place d s h k = absurd (omega arith)
held_in_off literals (r ∷ rows) zero d s h k = grind (arith, common_steps)
held_in_off literals (r ∷ rows) (suc place) d s h k =
    let o = s zero (suc place) d (omega arith) h in
    let ih = held_in_off literals rows place d (sorted_rest r rows s) (omega arith) k in
    grind (arith, common_steps, o, ih)

pub get_or-set_cases : (rows : List Span) (place k : ℕ) (v d : Span) → place < length rows
    → ((k ≡ place) × (get_or (set rows place v) k d ≡ v)) ⊎ (get_or (set rows place v) k d ≡ get_or rows k d)
get_or-set_cases [] place k v d h = absurd (omega arith)
get_or-set_cases (r ∷ rows) zero zero v d h = inl (refl, refl)
get_or-set_cases (r ∷ rows) zero (suc k) v d h = inr refl
get_or-set_cases (r ∷ rows) (suc place) zero v d h = inr refl
get_or-set_cases (r ∷ rows) (suc place) (suc k) v d h = at (get_or-set_cases rows place k v d (omega arith))
  where
    at : ((k ≡ place) × (get_or (set rows place v) k d ≡ v)) ⊎ (get_or (set rows place v) k d ≡ get_or rows k d)
        → ((suc k ≡ suc place) × (get_or (set rows place v) k d ≡ v)) ⊎
        (get_or (set rows place v) k d ≡ get_or rows k d)
    at (inl w) = inl (ap suc w.0, w.1)
    at (inr w) = inr w

-- what a row that is no longer held keeps
pub row_off : (rows : List Span) (place : ℕ) (e : Span) → place < length rows → (k : ℕ) (d : Span)
    → ((get_or (set rows place (record (get_or rows place e) { is_held = false })) k d).id ≡ (get_or rows k d).id)
    × ((get_or (set rows place (record (get_or rows place e) { is_held = false })) k d).start ≡ (get_or rows k d).start)
    × ((get_or (set rows place (record (get_or rows place e) { is_held = false })) k d).end ≡ (get_or rows k d).end)
row_off rows place e h k d = at (get_or-set_cases rows place k (record (get_or rows place e) { is_held = false }) d h)
    (get_or_default rows place d e h)
  where
    at : ((k ≡ place) × (get_or (set rows place (record (get_or rows place e) { is_held = false })) k d
        ≡ record (get_or rows place e) { is_held = false })) ⊎
        (get_or (set rows place (record (get_or rows place e) { is_held = false })) k d ≡ get_or rows k d)
        → get_or rows place d ≡ get_or rows place e
        → ((get_or (set rows place (record (get_or rows place e) { is_held = false })) k d).id ≡ (get_or rows k d).id)
        × ((get_or (set rows place (record (get_or rows place e) { is_held = false })) k d).start
        ≡ (get_or rows k d).start)
        × ((get_or (set rows place (record (get_or rows place e) { is_held = false })) k d).end ≡ (get_or rows k d).end)
    at (inl w) q = (
      ap (λ (r : Span). r.id) w.1 ∙ sym (ap (λ (r : Span). r.id) q) ∙ ap (λ (n : ℕ). (get_or rows n d).id) (sym w.0),
      ap (λ (r : Span). r.start) w.1 ∙ sym (ap (λ (r : Span). r.start) q)
          ∙ ap (λ (n : ℕ). (get_or rows n d).start) (sym w.0),
      ap (λ (r : Span). r.end) w.1 ∙ sym (ap (λ (r : Span). r.end) q) ∙ ap (λ (n : ℕ). (get_or rows n d).end) (sym w.0),
    )
    at (inr w) q = (ap (λ (r : Span). r.id) w, ap (λ (r : Span). r.start) w, ap (λ (r : Span). r.end) w)

pub sorted_off : (rows : List Span) (place : ℕ) (e : Span) → place < length rows → AreSorted rows
    → AreSorted (set rows place (record (get_or rows place e) { is_held = false }))
sorted_off rows place e h s i j d l g =
    let a = (row_off rows place e h i d).0 in
    let b = (row_off rows place e h j d).0 in
    let ln : length (set rows place (record (get_or rows place e) { is_held = false }))
    ≡ length rows = simp length-set in
    let o = s i j d l (rw ln at g) in
    grind (arith, a, b, o)

pub within_off : (rows : List Span) (n place : ℕ) (e : Span) → place < length rows → AreWithin rows n
    → AreWithin (set rows place (record (get_or rows place e) { is_held = false })) n
within_off rows n place e h w k d l =
    let a = row_off rows place e h k d in
    let ln : length (set rows place (record (get_or rows place e) { is_held = false }))
    ≡ length rows = simp length-set in
    let o = w k d (rw ln at l) in
    (grind (arith, a.1, a.2, o.0), grind (arith, a.2, o.1))

pub release_held : (literals : List ℕ) (rows : List Span) (place id : ℕ) (d : Span) → AreSorted rows
    → place < length rows → (get_or rows place d).id ≡ id
    → (k : ℕ) → held_in literals (set rows place (record (get_or rows place d) { is_held = false })) k
    ≡ without (held_in literals rows) (id ∷ []) k
release_held literals rows place id d s h e k =
    let a = held_in_off literals rows place d s h k in
    grind (arith, common_steps, a, e)

pub nothing_held : (literals : List ℕ) (rows : List Span) (id : ℕ)
    → ((k : ℕ) (d : Span) → k < length rows → (get_or rows k d).id ≡ id → ⊥)
    → (k : ℕ) → held_in literals rows k ≡ without (held_in literals rows) (id ∷ []) k
nothing_held literals rows id n k =
    let a = held_nowhere literals rows id n in
    at (eqb k id) refl a
  where
    at : (b : Bool) → eqb k id ≡ b → held_in literals rows id ≡ None
        → held_in literals rows k ≡ cond (b || false) None (held_in literals rows k)
    at true e a =
        let e2 : k ≡ id = grind (arith, common_steps, e) in
        rw e2 a
    at false e a = refl

pub delete_more : (h0 h1 h2 : Held) (ids : List ℕ) (i : ℕ) → i < length ids
    → ((k : ℕ) → h1 k ≡ without h0 (take i ids) k) → ((k : ℕ) → h2 k ≡ without h1 (get_or ids i 0 ∷ []) k)
    → (k : ℕ) → h2 k ≡ without h0 (take (i + 1) ids) k
delete_more h0 h1 h2 ids i h a b k =
    let ak = a k in
    let bk = b k in
    let m = member_take_more k ids i h in
    grind (arith, common_steps, ak, bk, m)
