-- The goals of a walk that does not end in abort, and those of any walk.
use Rattle.std.proofs.Common.{◌≡◌, ℕ, suc, ◌<◌, Bool, true, false, List, [], ◌∷◌, ◌++◌, length, map}
use Rattle.std.proofs.Common.{take, drop, get_or, ◌≤◌, ◌-◌, refl, sym, ap, ◌∙◌, subst, arith}
use Rattle.std.specs.Prelude.{if◌then◌else◌, ◌||◌}
use Rattle.std.specs.List.{AllByRecursion}
use Rattle.base.specs.Lists.{count_from}
use Rattle.rml_command.specs.Trees.{PrimitiveTree}
use Rattle.rml_command.specs.Paths.{is_abort, has_abort}
use Rattle.walks.specs.Walks.{leg_path, joined}
use Rattle.rml_command.specs.Models.{ModelTree}
use Rattle.limits.specs.Ceilings.{Ceilings}
use Rattle.lean_decide.specs.declared.settling.Counted.{Counted}
use Rattle.walks.specs.declared.leg.Leg.{Leg}
use Rattle.walks.specs.declared.leg.Walk.{Walk}
use Rattle.rml_bmc.specs.Tallies.{Passed, IsTurn, HasRoom}
use Rattle.rml_bmc.specs.declared.tally.Tally.{Tally}
use Rattle.rml_bmc.specs.declared.tally.Turn.{Turn}
use Rattle.rml_bmc.proofs.Tallying.{behind_passed}
use Rattle.rml_bmc.proofs.Walking.{Left}
use Rattle.rml_bmc.proofs.GoalCount.{length-counted, length-made, length-both}

-- a list of legs, taken apart
pub first_leg : (xs : List Leg) (x : Leg) → 1 ≤ length xs → x ≡ get_or xs 0 x
    → xs ≡ x ∷ take (length xs - 1) (drop 1 xs)
first_leg [] x lt e = absurd (omega (arith, lt))
first_leg (y ∷ ys) x lt e =
    let n : suc (length ys) - 1 ≡ length ys = omega arith in
    sym (ap (λ z. z ∷ ys) e) ∙ ap (λ zs. x ∷ zs) (sym (ap (λ (k : ℕ). take k ys) n ∙ take-whole ys))
  where
    take-whole : (xs : List Leg) → take (length xs) xs ≡ xs
    take-whole [] = refl
    take-whole (x ∷ xs) = ap (λ ys. x ∷ ys) (take-whole xs)

pub no_leg : (xs : List Leg) → length xs < 1 → xs ≡ []
no_leg [] lt = refl
no_leg (x ∷ xs) lt = absurd (omega (arith, lt))

-- as many goals as legs have room
pub ends_room : (f : Leg → Walk) (legs : List Leg) (tally : Tally) → HasRoom tally (length legs)
    → HasRoom tally (length (map f legs))
ends_room f legs tally room = subst (λ (n : ℕ). HasRoom tally n) (sym (length-made f legs)) room

module _ (counted : Counted) (limits : Ceilings) (m : ModelTree) (f : ℕ → Walk) (g : Leg → Walk) (n : ℕ)
    (ends : List Leg) (tally : Tally)
  where
    pub front_room : HasRoom tally (length (map f (count_from 0 n) ++ map g ends)) → HasRoom tally n
    front_room room =
        let a = length-counted f 0 n in
        let b = length-both (map f (count_from 0 n)) (map g ends) in
        omega (arith, room, a, b)

    pub back_room : (next : Tally) → HasRoom tally (length (map f (count_from 0 n) ++ map g ends))
        → Passed counted limits m (map f (count_from 0 n)) tally next → HasRoom next (length ends)
    back_room next room passed =
        let a = length-made g ends in
        let b = length-both (map f (count_from 0 n)) (map g ends) in
        let place = passed.place in
        omega (arith, room, a, b, place)

-- what is found of first goals and then of others is found of all
pub both : (counted : Counted) (limits : Ceilings) (m : ModelTree) (goals more : List Walk) (old mid : Tally) (t : Turn)
    → Passed counted limits m goals old mid → IsTurn counted limits m more mid t
    → IsTurn counted limits m (goals ++ more) old t
both counted limits m goals more old mid t passed h =
    behind_passed counted limits m goals more (goals ++ more) old old mid passed (λ u is. is) t h

-- the goals of a walk by its kind
pub chosen_then : (b : Bool) (xs ys : List Walk) → b ≡ true → (if b then xs else ys) ≡ xs
chosen_then true xs ys e = refl
chosen_then false xs ys e = absurd (cc e)

pub chosen_else : (b : Bool) (xs ys : List Walk) → b ≡ false → (if b then xs else ys) ≡ ys
chosen_else true xs ys e = absurd (cc e)
chosen_else false xs ys e = refl

head_is : (xs : List Leg) (d x : Leg) → 1 ≤ length xs → x ≡ get_or xs 0 d → x ≡ get_or xs 0 x
head_is [] d x lt e = absurd (omega (arith, lt))
head_is (y ∷ ys) d x lt e = e

-- where the first leg aborts, and where it goes on
or-assoc : (a b c : Bool) → (a || (b || c)) ≡ ((a || b) || c)
or-assoc true b c = refl
or-assoc false b c = refl

has_abort-append : (p q : List PrimitiveTree) → has_abort (p ++ q) ≡ (has_abort p || has_abort q)
has_abort-append [] q = refl
has_abort-append (x ∷ p) q =
    ap (λ b. is_abort x || b) (has_abort-append p q) ∙ or-assoc (is_abort x) (has_abort p) (has_abort q)

module _ (d : Leg) (m : ModelTree) (rest legs : List Leg) (b : Bool) (some : 1 ≤ length rest)
    (is : b ≡ has_abort (leg_path m (get_or rest 0 d))) (same : has_abort (joined m rest) ≡ has_abort (joined m legs))
  where
    both_parts : (b || has_abort (joined m (take (length rest - 1) (drop 1 rest)))) ≡ has_abort (joined m legs)
    both_parts =
        let leg = get_or rest 0 d in
        let after = take (length rest - 1) (drop 1 rest) in
        sym (ap (λ r. has_abort (joined m r)) (first_leg rest leg some (head_is rest d leg some refl))
        ∙ has_abort-append (leg_path m leg) (joined m after)
        ∙ ap (λ x. x || has_abort (joined m after)) (sym is))
        ∙ same

    pub aborts_here : b ≡ true → true ≡ has_abort (joined m legs)
    aborts_here yes_it = sym
        (ap (λ x. x || has_abort (joined m (take (length rest - 1) (drop 1 rest)))) yes_it) ∙ both_parts

    pub aborts_behind : b ≡ false
        → has_abort (joined m (take (length rest - 1) (drop 1 rest))) ≡ has_abort (joined m legs)
    aborts_behind no_it =
        sym (ap (λ x. x || has_abort (joined m (take (length rest - 1) (drop 1 rest)))) no_it) ∙ both_parts

pub leg_is : (d : Leg) (P : Leg → Type 0) (rest : List Leg) → 1 ≤ length rest → AllByRecursion P rest
    → P (get_or rest 0 d)
leg_is d P [] some all = absurd (omega (arith, some))
leg_is d P (x ∷ xs) some all = all.0

pub legs_behind : (P : Leg → Type 0) (rest : List Leg) → 1 ≤ length rest → AllByRecursion P rest
    → AllByRecursion P (take (length rest - 1) (drop 1 rest))
legs_behind P [] some all = absurd (omega (arith, some))
legs_behind P (x ∷ xs) some all =
    (subst (λ r. AllByRecursion P r) (first_leg (x ∷ xs) x some refl) all).1

-- the goal at the next end
pub end_here : (d : Leg) (counted : Counted) (limits : Ceilings) (m : ModelTree) (P : Walk → Type 0) (g : Leg → Walk)
    (whole : List Walk)
    (old now : Tally) (rest : List Leg) (w : Walk) → 1 ≤ length rest → w ≡ g (get_or rest 0 d)
    → Left counted limits m P whole old (map g rest) now
    → Left counted limits m P whole old (w ∷ map g (take (length rest - 1) (drop 1 rest))) now
end_here d counted limits m P g whole old now rest w some is left =
    let leg = get_or rest 0 d in
    let after = take (length rest - 1) (drop 1 rest) in
    subst (λ r. Left counted limits m P whole old r now)
    (ap (λ r. map g r) (first_leg rest leg some (head_is rest d leg some refl)) ∙ ap (λ x. x ∷ map g after) (sym is))
    left
