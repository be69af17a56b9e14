-- One more row.
use Rattle.std.proofs.Common.{◌≡◌, ℕ, zero, suc, ◌+◌, ◌<◌, ◌≤◌, eqb, Bool, true, cond, List, [], ◌∷◌, ◌++◌, length}
use Rattle.std.proofs.Common.{get_or, refl, arith, ap, Some, None}
use Rattle.std.proofs.Common.{Ok, Err, Result}
use Rattle.std.specs.Result.{OnErr}
use Rattle.std.proofs.lemmas.Grind.{common_steps}
use Rattle.std.proofs.lemmas.List.Elements.{All-push, All-weaker}
use Rattle.base.proofs.Lists.{slice_range-append, slice_range-seam}
use Rattle.cnf_base.specs.declared.cnf.Entry.TheVariants.{Clause, True}
use Rattle.lrat_log.specs.Held.{with_entry}
use Rattle.lrat_check.specs.declared.spans.Span.{Span}
use Rattle.lrat_check.specs.Spans.{held_in, entry_of_span, AreSorted, AreWithin, AreUpTo}

pub entry_of_span-append : (xs ys : List ℕ) (r : Span) → r.start ≤ r.end → r.end ≤ length xs
    → entry_of_span (xs ++ ys) r ≡ entry_of_span xs r
entry_of_span-append xs ys r h g =
    ap (λ (c : List ℕ). cond r.is_held (Some (cond r.is_true True (Clause c))) None)
    (slice_range-append xs ys r.start r.end h g)

pub held_in-append : (xs ys : List ℕ) (rows : List Span) → AreWithin rows (length xs) → (k : ℕ)
    → held_in (xs ++ ys) rows k ≡ held_in xs rows k
held_in-append xs ys [] w k = refl
held_in-append xs ys (r ∷ rows) w k =
    let h = w zero r (omega arith) in
    let e = entry_of_span-append xs ys r h.0 h.1 in
    let ih = held_in-append xs ys rows (λ i d l. w (suc i) d (omega arith)) k in
    grind (arith, common_steps, e, ih)

pub held_in-push : (literals : List ℕ) (rows : List Span) (r : Span)
    → ((i : ℕ) (d : Span) → i < length rows → (get_or rows i d).id < r.id)
    → (k : ℕ) → held_in literals (rows ++ r ∷ []) k
    ≡ cond (eqb k r.id) (entry_of_span literals r) (held_in literals rows k)
held_in-push literals [] r h k = grind (arith, common_steps)
held_in-push literals (q ∷ rows) r h k =
    let o = h zero q (omega arith) in
    let ih = held_in-push literals rows r (λ i d l. h (suc i) d (omega arith)) k in
    grind (arith, common_steps, o, ih)

-- the new row stands for its clause
pub new_entry : (xs clause : List ℕ) (id n : ℕ) (t : Bool) → n ≡ length xs + length clause
    → entry_of_span (xs ++ clause) (record { id = id; start = length xs; end = n; is_true = t; is_held = true })
    ≡ Some (cond t True (Clause clause))
new_entry xs clause id n t e =
    let s = slice_range-seam xs clause n e in
    ap (λ (c : List ℕ). Some (cond t True (Clause c))) s

pub add_row : (xs clause : List ℕ) (rows : List Span) (id s n : ℕ) (t : Bool) → AreWithin rows (length xs)
    → s ≡ length xs → n ≡ length xs + length clause
    → ((i : ℕ) (d : Span) → i < length rows → (get_or rows i d).id < id)
    → (k : ℕ) → held_in (xs ++ clause) (rows ++
    (record { id = id; start = s; end = n; is_true = t; is_held = true }) ∷ []) k
    ≡ with_entry (held_in xs rows) id (cond t True (Clause clause)) k
add_row xs clause rows id s n t w se e h k =
    let p = held_in-push (xs ++ clause) rows
    (record { id = id; start = s; end = n; is_true = t; is_held = true }) h k in
    let a = held_in-append xs clause rows w k in
    let b : entry_of_span (xs ++ clause) (record { id = id; start = s; end = n; is_true = t; is_held = true })
    ≡ Some (cond t True (Clause clause)) = rw se (new_entry xs clause id n t e) in
    grind (arith, common_steps, p, a, b)

pub sorted_push : (rows : List Span) (r : Span) → AreSorted rows
    → ((i : ℕ) (d : Span) → i < length rows → (get_or rows i d).id < r.id)
    → AreSorted (rows ++ r ∷ [])
sorted_push rows r s h i j d l g =
    let a = s i j d in
    let b = h i d in
    grind (arith, common_steps, a, b, l, g)

pub on_err_holds : {A B P : Type 0} (r : Result A B) → P → OnErr r P
on_err_holds (Ok x) p = tt
on_err_holds (Err e) p = p

-- literals that no row points to change nothing
pub grown : (xs clause ys : List ℕ) (rows qs : List Span) → ys ≡ xs ++ clause → qs ≡ rows → AreWithin rows (length xs)
    → (k : ℕ) → held_in ys qs k ≡ held_in xs rows k
grown xs clause ys rows qs a b w k = rw (a, b) (held_in-append xs clause rows w k)

pub within_more : (rows : List Span) (n m : ℕ) → AreWithin rows n → n ≤ m → AreWithin rows m
within_more rows n m w l = All-weaker (λ (r : Span). (r.start ≤ r.end) × (r.end ≤ n))
    (λ (r : Span). (r.start ≤ r.end) × (r.end ≤ m)) (λ q h. (h.0, omega arith)) rows w

pub within_push : (rows : List Span) (r : Span) (n m : ℕ) → AreWithin rows n → n ≤ m → r.start ≤ r.end → r.end ≤ m
    → AreWithin (rows ++ r ∷ []) m
within_push rows r n m w l a b =
    All-push (λ (r : Span). (r.start ≤ r.end) × (r.end ≤ m)) rows r
    (All-weaker (λ (r : Span). (r.start ≤ r.end) × (r.end ≤ n)) (λ (r : Span). (r.start ≤ r.end) × (r.end ≤ m))
    (λ q h. (h.0, omega arith)) rows w) (a, b)

pub up_to_push : (marks : List ℕ) (epoch : ℕ) → AreUpTo epoch marks → AreUpTo epoch (marks ++ 0 ∷ [])
up_to_push [] epoch h zero = omega arith
up_to_push [] epoch h (suc k) = omega arith
up_to_push (m ∷ marks) epoch h zero = h zero
up_to_push (m ∷ marks) epoch h (suc k) = up_to_push marks epoch (λ i. h (suc i)) k
