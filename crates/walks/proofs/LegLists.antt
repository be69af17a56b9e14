-- The legs of a stage, path by path, and those of actions.
use Rattle.std.proofs.Common.{◌≡◌, ◌+◌, ◌-◌, ◌<◌, ◌≤◌, ℕ, zero, suc, Bool, true, false, cond, List, [], ◌∷◌, ◌++◌}
use Rattle.std.proofs.Common.{length, drop, Some, sym, ap, ◌∙◌, append_assoc, arith}
use Rattle.std.proofs.lemmas.List.{drop_all, append-nil}
use Rattle.std.specs.Prelude.{slice_get}
use Rattle.std.specs.List.{flat_map}
use Rattle.rml_command.specs.Trees.{PrimitiveTree}
use Rattle.base.specs.Lists.{count_from}
use Rattle.rml_command.specs.declared.goal.Stage.{Stage}
use Rattle.walks.specs.declared.leg.Leg.{Leg}
use Rattle.walks.specs.Walks.{Test, legs_among}

dropped : (ps : List (List PrimitiveTree)) (i : ℕ) (p : List PrimitiveTree) → slice_get ps i ≡ Some p
    → drop i ps ≡ p ∷ drop (i + 1) ps
dropped [] i p e = absurd (cc e)
dropped (x ∷ ps) zero p e = let same : x ≡ p = cc e in ap (λ z. z ∷ ps) same
dropped (x ∷ ps) (suc i) p e = let next : suc (i + 1) ≡ suc i + 1 = omega arith in dropped ps i p e
    ∙ ap (λ n. p ∷ drop n (x ∷ ps)) next

abbrev pub leg_at : Stage → ℕ → Leg
leg_at s n = record { stage = s; path = n }

-- the legs from a path on
turn : (test : Test) (s : Stage) (ps : List (List PrimitiveTree)) (i : ℕ) (p : List PrimitiveTree) (b : Bool)
    → slice_get ps i ≡ Some p → test p ≡ b
    → legs_among test s (i + 1) (drop i ps) ≡ cond b
    (leg_at s (i + 1) ∷ legs_among test s (i + 1 + 1) (drop (i + 1) ps))
    (legs_among test s (i + 1 + 1) (drop (i + 1) ps))
turn test s ps i p b at is =
    let rest = drop (i + 1) ps in
    let next : suc (i + 1) ≡ i + 1 + 1 = omega arith in
    ap (legs_among test s (i + 1)) (dropped ps i p at)
    ∙ ap (λ b. cond b (leg_at s (i + 1) ∷ legs_among test s (suc (i + 1)) rest)
    (legs_among test s (suc (i + 1)) rest)) is
    ∙ ap (λ n. cond b (leg_at s (i + 1) ∷ legs_among test s n rest) (legs_among test s n rest)) next

-- a path is none of the legs
pub passed : (test : Test) (s : Stage) (ps : List (List PrimitiveTree)) (i : ℕ) (p : List PrimitiveTree)
    (before whole : List Leg) → slice_get ps i ≡ Some p → test p ≡ false
    → before ++ legs_among test s (i + 1) (drop i ps) ≡ whole
    → before ++ legs_among test s (i + 1 + 1) (drop (i + 1) ps) ≡ whole
passed test s ps i p before whole at is h = sym (ap (λ gs. before ++ gs) (turn test s ps i p false at is)) ∙ h

-- a path is the next of the legs
pub listed_next : (test : Test) (s : Stage) (ps : List (List PrimitiveTree)) (i : ℕ) (p : List PrimitiveTree)
    (before new whole : List Leg) → slice_get ps i ≡ Some p → test p ≡ true
    → new ≡ before ++ leg_at s (i + 1) ∷ []
    → before ++ legs_among test s (i + 1) (drop i ps) ≡ whole
    → new ++ legs_among test s (i + 1 + 1) (drop (i + 1) ps) ≡ whole
listed_next test s ps i p before new whole at is e h =
    ap (λ gs. gs ++ legs_among test s (i + 1 + 1) (drop (i + 1) ps)) e
    ∙ append_assoc before (leg_at s (i + 1) ∷ []) (legs_among test s (i + 1 + 1) (drop (i + 1) ps))
    ∙ sym (ap (λ gs. before ++ gs) (turn test s ps i p true at is)) ∙ h

-- no path is left
pub listed_all : (test : Test) (s : Stage) (ps : List (List PrimitiveTree)) (i : ℕ) (legs whole : List Leg)
    → length ps ≤ i → legs ++ legs_among test s (i + 1) (drop i ps) ≡ whole → legs ≡ whole
listed_all test s ps i legs whole le h =
    let none : drop i ps ≡ [] = drop_all i ps le in
    sym (append-nil legs) ∙ sym (ap (λ qs. legs ++ legs_among test s (i + 1) qs) none) ∙ h

-- counted in place of listed
pub passed_count : (test : Test) (s : Stage) (ps : List (List PrimitiveTree)) (i n whole : ℕ) (p : List PrimitiveTree)
    → slice_get ps i ≡ Some p → test p ≡ false → n + length (legs_among test s (i + 1) (drop i ps)) ≡ whole
    → n + length (legs_among test s (i + 1 + 1) (drop (i + 1) ps)) ≡ whole
passed_count test s ps i n whole p at is h =
    sym (ap (λ gs. n + length gs) (turn test s ps i p false at is)) ∙ h

pub counted : (test : Test) (s : Stage) (ps : List (List PrimitiveTree)) (i n whole : ℕ) (p : List PrimitiveTree)
    → slice_get ps i ≡ Some p → test p ≡ true → n + length (legs_among test s (i + 1) (drop i ps)) ≡ whole
    → n + 1 + length (legs_among test s (i + 1 + 1) (drop (i + 1) ps)) ≡ whole
counted test s ps i n whole p at is h =
    let more = legs_among test s (i + 1 + 1) (drop (i + 1) ps) in
    let e : n + 1 + length more ≡ n + suc (length more) = omega arith in
    e ∙ sym (ap (λ gs. n + length gs) (turn test s ps i p true at is)) ∙ h

pub counted_all : (test : Test) (s : Stage) (ps : List (List PrimitiveTree)) (i n whole : ℕ) → length ps ≤ i
    → n + length (legs_among test s (i + 1) (drop i ps)) ≡ whole → n ≡ whole
counted_all test s ps i n whole le h =
    let none : drop i ps ≡ [] = drop_all i ps le in
    let e : n ≡ n + 0 = omega arith in
    e ∙ sym (ap (λ qs. n + length (legs_among test s (i + 1) qs)) none) ∙ h

-- the first of the numbers from k up to n
pub count-step : (k n : ℕ) → k < n → count_from k (n - k) ≡ k ∷ count_from (k + 1) (n - (k + 1))
count-step k n h =
    let e : n - k ≡ suc (n - (k + 1)) = omega arith in
    let f : suc k ≡ k + 1 = omega arith in
    ap (λ (i : ℕ). count_from k i) e ∙ ap (λ (i : ℕ). k ∷ count_from i (n - (k + 1))) f

pub count-none : (k n : ℕ) → n ≤ k → count_from k (n - k) ≡ []
count-none k n h = let e : n - k ≡ 0 = omega arith in ap (λ (i : ℕ). count_from k i) e

-- the legs of one more action
pub joined_next : (F : ℕ → List Leg) (k n : ℕ) (before new whole : List Leg) → k < n → new ≡ before ++ F k
    → before ++ flat_map F (count_from k (n - k)) ≡ whole
    → new ++ flat_map F (count_from (k + 1) (n - (k + 1))) ≡ whole
joined_next F k n before new whole lt e h =
    ap (λ xs. xs ++ flat_map F (count_from (k + 1) (n - (k + 1)))) e
    ∙ append_assoc before (F k) (flat_map F (count_from (k + 1) (n - (k + 1))))
    ∙ sym (ap (λ ks. before ++ flat_map F ks) (count-step k n lt)) ∙ h

pub joined_all : (F : ℕ → List Leg) (k n : ℕ) (all whole : List Leg) → n ≤ k
    → all ++ flat_map F (count_from k (n - k)) ≡ whole → all ≡ whole
joined_all F k n all whole le h =
    sym (append-nil all) ∙ sym (ap (λ ks. all ++ flat_map F ks) (count-none k n le)) ∙ h

length-append-here : (xs ys : List Leg) → length (xs ++ ys) ≡ length xs + length ys
length-append-here [] ys = let e : 0 + length ys ≡ length ys = omega arith in sym e
length-append-here (x ∷ xs) ys =
    let e : suc (length xs + length ys) ≡ suc (length xs) + length ys = omega arith in
    ap (λ (n : ℕ). suc n) (length-append-here xs ys) ∙ e

pub summed_next : (F : ℕ → List Leg) (k n sum more whole : ℕ) → k < n → more ≡ length (F k)
    → sum + length (flat_map F (count_from k (n - k))) ≡ whole
    → sum + more + length (flat_map F (count_from (k + 1) (n - (k + 1)))) ≡ whole
summed_next F k n sum more whole lt e h =
    let rest = flat_map F (count_from (k + 1) (n - (k + 1))) in
    let step = ap (λ ks. length (flat_map F ks)) (count-step k n lt) ∙ length-append-here (F k) rest in
    omega (arith, h, e, step)

pub summed_all : (F : ℕ → List Leg) (k n sum whole : ℕ) → n ≤ k
    → sum + length (flat_map F (count_from k (n - k))) ≡ whole → sum ≡ whole
summed_all F k n sum whole le h =
    let none = ap (λ ks. length (flat_map F ks)) (count-none k n le) in
    let e : sum ≡ sum + 0 = omega arith in e ∙ ap (λ (x : ℕ). sum + x) (sym none) ∙ h
