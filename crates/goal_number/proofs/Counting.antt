-- Goals are counted off one by one, group by group.
use Rattle.std.proofs.Common.{◌≡◌, ◌+◌, ◌-◌, ◌<◌, ◌≤◌, ℕ, zero, suc, Bool, true, false, cond, List, [], ◌∷◌, ◌++◌}
use Rattle.std.proofs.Common.{length, drop, map, Some, None, refl, sym, ap, ◌∙◌, append_assoc, arith}
use Rattle.std.proofs.lemmas.List.{drop_all}
use Rattle.std.specs.Prelude.{slice_get}
use Rattle.std.specs.List.{flat_map}
use Rattle.rml_command.specs.Trees.{PrimitiveTree}
use Rattle.base.specs.Lists.{count_from}
use Rattle.rml_command.specs.Goals.{goals_among, is_for}
use Rattle.rml_command.specs.declared.goal.Head.{Head}
use Rattle.rml_command.specs.declared.goal.Goal.{Goal}
use Rattle.goal_number.specs.Seeking.{seek, seek_on, IsPlace}
use Rattle.goal_number.specs.declared.seeking.Sought.{Sought}
use Rattle.goal_number.specs.declared.seeking.Sought.TheVariants.{Found, Left}

abbrev pub goal_at : Head → ℕ → Goal
goal_at group path = record { stage = group.stage; path = path; about = group.about }

dropped : (ps : List (List PrimitiveTree)) (i : ℕ) (p : List PrimitiveTree) → slice_get ps i ≡ Some p
    → drop i ps ≡ p ∷ drop (i + 1) ps
dropped [] i p e = absurd (cc e)
dropped (x ∷ ps) zero p e = let same : x ≡ p = cc e in ap (λ z. z ∷ ps) same
dropped (x ∷ ps) (suc i) p e = let next : suc (i + 1) ≡ suc i + 1 = omega arith in dropped ps i p e
    ∙ ap (λ n. p ∷ drop n (x ∷ ps)) next

-- the goals from a path on
turn : (group : Head) (ps : List (List PrimitiveTree)) (i : ℕ) (p : List PrimitiveTree) (b : Bool)
    → slice_get ps i ≡ Some p → is_for group.about p ≡ b
    → goals_among group (i + 1) (drop i ps) ≡ cond b
    (goal_at group (i + 1) ∷ goals_among group (i + 1 + 1) (drop (i + 1) ps))
    (goals_among group (i + 1 + 1) (drop (i + 1) ps))
turn group ps i p b at is =
    let rest = drop (i + 1) ps in
    let next : suc (i + 1) ≡ i + 1 + 1 = omega arith in
    ap (goals_among group (i + 1)) (dropped ps i p at)
    ∙ ap (λ b. cond b (goal_at group (i + 1) ∷ goals_among group (suc (i + 1)) rest)
    (goals_among group (suc (i + 1)) rest)) is
    ∙ ap (λ n. cond b (goal_at group (i + 1) ∷ goals_among group n rest) (goals_among group n rest)) next

-- a path is none of the goals
pub passed : (group : Head) (ps : List (List PrimitiveTree)) (i left : ℕ) (p : List PrimitiveTree) (whole : Sought)
    → slice_get ps i ≡ Some p → is_for group.about p ≡ false
    → seek left (goals_among group (i + 1) (drop i ps)) ≡ whole
    → seek left (goals_among group (i + 1 + 1) (drop (i + 1) ps)) ≡ whole
passed group ps i left p whole at is h = sym (ap (seek left) (turn group ps i p false at is)) ∙ h

-- a path is the goal
pub met : (group : Head) (ps : List (List PrimitiveTree)) (i left : ℕ) (p : List PrimitiveTree) (whole : Sought)
    → slice_get ps i ≡ Some p → is_for group.about p ≡ true → left ≡ 0
    → seek left (goals_among group (i + 1) (drop i ps)) ≡ whole
    → Found (goal_at group (i + 1)) ≡ whole
met group ps i left p whole at is none h =
    let rest = goals_among group (i + 1 + 1) (drop (i + 1) ps) in
    sym (ap (λ n. seek n (goal_at group (i + 1) ∷ goals_among group (i + 1 + 1) (drop (i + 1) ps))) none)
    ∙ sym (ap (seek left) (turn group ps i p true at is)) ∙ h

before : (left : ℕ) (goal : Goal) (goals : List Goal) → (left ≡ 0 → ⊥)
    → seek left (goal ∷ goals) ≡ seek (left - 1) goals
before zero goal goals some = absurd (some refl)
before (suc n) goal goals some = let same : n ≡ suc n - 1 = omega arith in ap (λ k. seek k goals) same

-- a path is counted off
pub counted : (group : Head) (ps : List (List PrimitiveTree)) (i left : ℕ) (p : List PrimitiveTree) (whole : Sought)
    → slice_get ps i ≡ Some p → is_for group.about p ≡ true → (left ≡ 0 → ⊥)
    → seek left (goals_among group (i + 1) (drop i ps)) ≡ whole
    → seek (left - 1) (goals_among group (i + 1 + 1) (drop (i + 1) ps)) ≡ whole
counted group ps i left p whole at is some h =
    sym (before left (goal_at group (i + 1)) (goals_among group (i + 1 + 1) (drop (i + 1) ps)) some)
    ∙ sym (ap (seek left) (turn group ps i p true at is)) ∙ h

-- no path is left
pub counted_all : (group : Head) (ps : List (List PrimitiveTree)) (i left : ℕ) (whole : Sought) → length ps ≤ i
    → seek left (goals_among group (i + 1) (drop i ps)) ≡ whole → Left left ≡ whole
counted_all group ps i left whole le h =
    let none : drop i ps ≡ [] = drop_all i ps le in
    sym (ap (λ qs. seek left (goals_among group (i + 1) qs)) none) ∙ h

on_both : (sought : Sought) (xs ys : List Goal) → seek_on sought (xs ++ ys) ≡ seek_on (seek_on sought xs) ys
on_both (Found goal) xs ys = refl
on_both (Left n) [] ys = refl
on_both (Left zero) (x ∷ xs) ys = refl
on_both (Left (suc n)) (x ∷ xs) ys = on_both (Left n) xs ys

-- the goals of one more group
pub on_next : {B : Type 0} (G : B → List Goal) (sought : Sought) (x : B) (xs : List B)
    → seek_on sought (flat_map G (x ∷ xs)) ≡ seek_on (seek_on sought (G x)) (flat_map G xs)
on_next G sought x xs = on_both sought (G x) (flat_map G xs)

on_none : (sought : Sought) → seek_on sought [] ≡ sought
on_none (Found goal) = refl
on_none (Left n) = refl

-- the goals of more groups
pub on_more : {B : Type 0} (G : B → List Goal) (sought : Sought) (xs ys : List B)
    → seek_on sought (flat_map G (xs ++ ys)) ≡ seek_on (seek_on sought (flat_map G xs)) (flat_map G ys)
on_more G sought [] ys = ap (λ s. seek_on s (flat_map G ys)) (sym (on_none sought))
on_more G sought (x ∷ xs) ys =
    on_both sought (G x) (flat_map G (xs ++ ys))
    ∙ on_more G (seek_on sought (G x)) xs ys
    ∙ ap (λ s. seek_on s (flat_map G ys)) (sym (on_both sought (G x) (flat_map G xs)))

-- the first of the numbers from k up to n
count-step : (k n : ℕ) → k < n → count_from k (n - k) ≡ k ∷ count_from (k + 1) (n - (k + 1))
count-step k n h =
    let e : n - k ≡ suc (n - (k + 1)) = omega arith in
    let f : suc k ≡ k + 1 = omega arith in
    ap (λ (i : ℕ). count_from k i) e ∙ ap (λ (i : ℕ). k ∷ count_from i (n - (k + 1))) f

count-none : (k n : ℕ) → n ≤ k → count_from k (n - k) ≡ []
count-none k n h = let e : n - k ≡ 0 = omega arith in ap (λ (i : ℕ). count_from k i) e

-- the first group, before some numbered ones
pub first_group : {B : Type 0} (G : B → List Goal) (f : ℕ → B) (n most : ℕ) (old new : Sought) (x : B) → n ≡ most
    → new ≡ seek_on old (G x)
    → seek_on new (flat_map G (map f (count_from 0 (n - 0)))) ≡ seek_on old (flat_map G (x ∷ map f (count_from 0 most)))
first_group G f n most old new x same e =
    let all : n - 0 ≡ most = omega (arith, same) in
    ap (λ s. seek_on s (flat_map G (map f (count_from 0 (n - 0))))) e
    ∙ ap (λ k. seek_on (seek_on old (G x)) (flat_map G (map f (count_from 0 k)))) all
    ∙ sym (on_next G old x (map f (count_from 0 most)))

-- the first groups, before some numbered lists of them
pub first_groups : {B : Type 0} (G : B → List Goal) (f : ℕ → List B) (n most : ℕ) (old new : Sought) (xs rest : List B)
    → n ≡ most
    → new ≡ seek_on old (flat_map G xs)
    → seek_on new (flat_map G (flat_map f (count_from 0 (n - 0)) ++ rest))
    ≡ seek_on old (flat_map G (xs ++ (flat_map f (count_from 0 most) ++ rest)))
first_groups G f n most old new xs rest same e =
    let all : n - 0 ≡ most = omega (arith, same) in
    ap (λ s. seek_on s (flat_map G (flat_map f (count_from 0 (n - 0)) ++ rest))) e
    ∙ ap (λ k. seek_on (seek_on old (flat_map G xs)) (flat_map G (flat_map f (count_from 0 k) ++ rest))) all
    ∙ sym (on_more G old xs (flat_map f (count_from 0 most) ++ rest))

-- the next of some numbered groups
pub next_group : {B : Type 0} (G : B → List Goal) (f : ℕ → B) (k n : ℕ) (old new whole : Sought) → k < n
    → new ≡ seek_on old (G (f k))
    → seek_on old (flat_map G (map f (count_from k (n - k)))) ≡ whole
    → seek_on new (flat_map G (map f (count_from (k + 1) (n - (k + 1))))) ≡ whole
next_group G f k n old new whole lt e h =
    ap (λ s. seek_on s (flat_map G (map f (count_from (k + 1) (n - (k + 1)))))) e
    ∙ sym (on_next G old (f k) (map f (count_from (k + 1) (n - (k + 1)))))
    ∙ sym (ap (λ ns. seek_on old (flat_map G (map f ns))) (count-step k n lt)) ∙ h

pub no_group : {B : Type 0} (G : B → List Goal) (f : ℕ → B) (k n : ℕ) (sought whole : Sought) → n ≤ k
    → seek_on sought (flat_map G (map f (count_from k (n - k)))) ≡ whole → sought ≡ whole
no_group G f k n sought whole le h =
    sym (on_none sought) ∙ sym (ap (λ ns. seek_on sought (flat_map G (map f ns))) (count-none k n le)) ∙ h

-- the next of some numbered lists of groups
pub next_groups : {B : Type 0} (G : B → List Goal) (f : ℕ → List B) (k n : ℕ) (old new whole : Sought) (rest : List B)
    → k < n
    → new ≡ seek_on old (flat_map G (f k))
    → seek_on old (flat_map G (flat_map f (count_from k (n - k)) ++ rest)) ≡ whole
    → seek_on new (flat_map G (flat_map f (count_from (k + 1) (n - (k + 1))) ++ rest)) ≡ whole
next_groups G f k n old new whole rest lt e h =
    let more = flat_map f (count_from (k + 1) (n - (k + 1))) in
    ap (λ s. seek_on s (flat_map G (flat_map f (count_from (k + 1) (n - (k + 1))) ++ rest))) e
    ∙ sym (on_more G old (f k) (flat_map f (count_from (k + 1) (n - (k + 1))) ++ rest))
    ∙ sym (ap (λ xs. seek_on old (flat_map G xs))
    (append_assoc (f k) (flat_map f (count_from (k + 1) (n - (k + 1)))) rest))
    ∙ sym (ap (λ ns. seek_on old (flat_map G (flat_map f ns ++ rest))) (count-step k n lt)) ∙ h

pub last_group : {B : Type 0} (G : B → List Goal) (f : ℕ → List B) (k n : ℕ) (old new whole : Sought) (x : B) → n ≤ k
    → new ≡ seek_on old (G x)
    → seek_on old (flat_map G (flat_map f (count_from k (n - k)) ++ x ∷ [])) ≡ whole → new ≡ whole
last_group G f k n old new whole x le e h =
    e ∙ sym (on_none (seek_on old (G x))) ∙ sym (on_next G old x [])
    ∙ sym (ap (λ ns. seek_on old (flat_map G (flat_map f ns ++ x ∷ []))) (count-none k n le)) ∙ h

one_more : (goal : Goal) (goals : List Goal) (n : ℕ) (sought : Sought) → IsPlace goals n sought
    → IsPlace (goal ∷ goals) (suc n) sought
one_more goal goals n (Found g) is = is
one_more goal goals n (Left k) is = omega (arith, is)

-- what the goals are counted off to
pub is_place : (n : ℕ) (goals : List Goal) → IsPlace goals n (seek n goals)
is_place n [] = omega arith
is_place zero (goal ∷ goals) = refl
is_place (suc n) (goal ∷ goals) = one_more goal goals n (seek n goals) (is_place n goals)

-- nothing stands behind the last
pub none_behind : (goals : List Goal) (n k : ℕ) → n ≡ length goals + k → slice_get goals n ≡ None
none_behind [] n k e = refl
none_behind (goal ∷ goals) zero k e = absurd (omega (arith, e))
none_behind (goal ∷ goals) (suc n) k e = none_behind goals n k (omega (arith, e))
