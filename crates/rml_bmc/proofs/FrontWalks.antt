-- What begins with an infeasible walk is infeasible, and no goal along it has a run.
use Rattle.std.proofs.Common.{◌≡◌, ℕ, suc, Bool, ◌-◌, ◌≤◌, inl, inr, true, false, List, [], ◌∷◌, ◌++◌, length, take}
use Rattle.std.proofs.Common.{drop, get_or}
use Rattle.std.proofs.Common.{T, eqb→eq, refl, sym, ap, ◌∙◌, subst, arith}
use Rattle.std.specs.Prelude.{◌==◌, ◌&&◌}
use Rattle.std.specs.List.{starts_with}
use Rattle.base.specs.Lists.{SomeOf}
use Rattle.fol_sig.specs.Tables.{Tables}
use Rattle.rml_command.specs.Outcomes.{Outcome, ended, aborted}
use Rattle.rml_command.specs.Models.{ModelTree}
use Rattle.rml_command.specs.contracts.goal.StagePartialEq.TheImpl as stage_eq
use Rattle.rml_command.specs.declared.goal.Stage.{Stage}
use Rattle.rml_command.specs.declared.goal.Stage.TheVariants as stage
use Rattle.rml_command.specs.declared.goal.About.{About}
use Rattle.walks.specs.contracts.leg.LegPartialEq.TheImpl as leg_eq
use Rattle.walks.specs.declared.leg.Leg.{Leg}
use Rattle.walks.specs.Walks.{goal_along}
use Rattle.walks.specs.Runs.{Along, HasNoRun}
use Rattle.walk_model.specs.Laws.{HasNoOutcome}
use Rattle.rml_bmc.specs.Infeasible.{AreInfeasible, IsKnown, IsKnownGoal}
use Rattle.rml_bmc.specs.declared.deciding.Known.{Known}
use Rattle.rml_bmc.specs.declared.deciding.Known.TheVariants.{Nothing, Infeasible}

first_is : (s t : Bool) → (s && t) ≡ true → s ≡ true
first_is true t h = refl
first_is false t h = h

second_is : (s t : Bool) → (s && t) ≡ true → t ≡ true
second_is true t h = h
second_is false t h = absurd (cc h)

-- equal legs are one
abbrev equal : Leg → Leg → Bool
equal = (leg_eq.ghosts).eq

abbrev equal_stages : Stage → Stage → Bool
equal_stages = (stage_eq.ghosts).eq

one_stage : (a b : Stage) → equal_stages a b ≡ true → a ≡ b
one_stage stage.Init stage.Init h = refl
one_stage stage.Init (stage.Action k) h = absurd (cc h)
one_stage stage.Init stage.Final h = absurd (cc h)
one_stage (stage.Action j) stage.Init h = absurd (cc h)
one_stage (stage.Action j) (stage.Action k) h = ap stage.Action (eqb→eq j k (subst T (sym h) tt))
one_stage (stage.Action j) stage.Final h = absurd (cc h)
one_stage stage.Final stage.Init h = absurd (cc h)
one_stage stage.Final (stage.Action k) h = absurd (cc h)
one_stage stage.Final stage.Final h = refl

one_leg : (a b : Leg) → equal a b ≡ true → a ≡ b
one_leg a b h =
    let s = one_stage a.stage b.stage (first_is (equal_stages a.stage b.stage) (a.path == b.path) h) in
    let same = second_is (equal_stages a.stage b.stage) (a.path == b.path) h in
    let p : a.path ≡ b.path = eqb→eq a.path b.path (subst T (sym same) tt) in
    ap (λ t. record { stage = t; path = a.path }) s ∙ ap (λ (n : ℕ). record { stage = b.stage; path = n }) p

-- what begins with a walk is that walk and something behind it
begun : (walk legs : List Leg) → starts_with equal legs walk ≡ true → legs ≡ walk ++ drop (length walk) legs
begun [] legs h = refl
begun (x ∷ xs) [] h = absurd (cc h)
begun (x ∷ xs) (y ∷ ys) h =
    let e = one_leg x y (first_is (equal x y) (starts_with equal ys xs) h) in
    let rest = begun xs ys (second_is (equal x y) (starts_with equal ys xs) h) in
    ap (λ l. l ∷ ys) (sym e) ∙ ap (λ zs. x ∷ zs) rest

pub begins_with_first : (walks : List (List Leg)) (legs walk front d : List Leg) (t : Bool) → 1 ≤ length walks
    → walk ≡ get_or walks 0 d → front ≡ walk → t ≡ starts_with equal legs front → t ≡ true
    → SomeOf (λ w. (more : List Leg) × (legs ≡ w ++ more)) walks
begins_with_first [] legs walk front d t some is e value found = absurd (omega (arith, some))
begins_with_first (w ∷ ws) legs walk front d t some is e value found =
    inl (
      drop (length front) legs,
      begun front legs (sym value ∙ found) ∙ ap (λ f. f ++ drop (length front) legs) (e ∙ is),
    )

-- a list taken apart
pub first_of : {A : Type 0} (xs : List A) (d : A) → 1 ≤ length xs
    → xs ≡ get_or xs 0 d ∷ take (length xs - 1) (drop 1 xs)
first_of [] d some = absurd (omega (arith, some))
first_of (x ∷ xs) d some =
    let n : suc (length xs) - 1 ≡ length xs = omega arith in
    ap (λ ys. x ∷ ys) (sym (ap (λ (k : ℕ). take k xs) n ∙ take_all xs))
  where
    take_all : {A : Type 0} (xs : List A) → take (length xs) xs ≡ xs
    take_all [] = refl
    take_all (x ∷ xs) = ap (λ ys. x ∷ ys) (take_all xs)

module _ (m : ModelTree) where
  -- an outcome along legs and others behind them is behind one along the first
  front : (legs more : List Leg) (s : Tables) (o : Outcome) → Along m (legs ++ more) s o
      → (mid : Outcome) × Along m legs s mid
  front [] more s o h = (ended s, refl)
  front (leg ∷ legs) more s o (inl h) = (aborted, inl (refl, h.1))
  front (leg ∷ legs) more s o (inr h) = let rest = front legs more h.0 o h.2 in (rest.0, inr (h.0, h.1, rest.1))

  longer : (legs more : List Leg) → HasNoOutcome m legs → HasNoOutcome m (legs ++ more)
  longer legs more none s o fits lawful h = let f = front legs more s o h in none s f.0 fits lawful f.1

  no_run : (legs : List Leg) (a : About) → HasNoOutcome m legs → HasNoRun m (goal_along legs a)
  no_run legs a none run = none run.start run.run.outcome run.structure run.run.lawful run.run.along

  pub known_here : (legs : List Leg) (a : About) (known : Known) → IsKnown m legs known
      → IsKnownGoal m (goal_along legs a) known
  known_here legs a Nothing h = tt
  known_here legs a Infeasible h = no_run legs a h

  pub known_behind : (legs : List Leg) (leg : Leg) (a : About) (known : Known) → IsKnown m legs known
      → IsKnownGoal m (goal_along (legs ++ leg ∷ []) a) known
  known_behind legs leg a Nothing h = tt
  known_behind legs leg a Infeasible h = no_run (legs ++ leg ∷ []) a (longer legs (leg ∷ []) h)

  pub begun_with_one : (walks : List (List Leg)) (legs : List Leg) → AreInfeasible m walks
      → SomeOf (λ walk. (more : List Leg) × (legs ≡ walk ++ more)) walks → HasNoOutcome m legs
  begun_with_one [] legs all some = absurd some
  begun_with_one (walk ∷ walks) legs all (inl begins) =
      subst (HasNoOutcome m) (sym begins.1) (longer walk begins.0 all.0)
  begun_with_one (walk ∷ walks) legs all (inr some) = begun_with_one walks legs all.1 some
