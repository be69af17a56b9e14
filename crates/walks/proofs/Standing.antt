-- The goals of a length are walks of the model.
use Rattle.std.proofs.Common.{◌≡◌, ◌⊎◌, inl, inr, ℕ, zero, suc, ◌+◌, ◌<◌, Bool, true, false, not, cond}
use Rattle.std.proofs.Common.{Some, List, [], ◌∷◌, ◌++◌, length, map, refl, sym, ap, ◌∙◌, subst, arith}
use Rattle.std.specs.Prelude.{slice_get}
use Rattle.std.specs.List.{AllByRecursion}
use Rattle.rml_command.specs.Trees.{PrimitiveTree}
use Rattle.base.specs.Lists.{count_from, numbered}
use Rattle.rml_command.specs.Paths.{has_abort}
use Rattle.rml_command.specs.Models.{ModelTree}
use Rattle.rml_command.specs.Goals.{stage_paths}
use Rattle.rml_command.specs.declared.goal.Stage.{Stage}
use Rattle.rml_command.specs.declared.goal.Stage.TheVariants as stage
use Rattle.rml_command.specs.declared.goal.About.TheVariants as about
use Rattle.walks.specs.declared.leg.Leg.{Leg}
use Rattle.walks.specs.Walks.{Test, any_path, goes_on, legs_among, stage_legs, action_legs, may_stand, action_choices}
use Rattle.walks.specs.Walks.{one_of_each, walks_of, path_of, leg_path, joined, goal_along, open_goals, walk_goals}
use Rattle.walks.specs.Laws.{IsLeg, AbortsLast, IsInit, IsAction, AreLater, AreInOrder, AreLegs, IsWalk, ListedAreLegs}
use Rattle.walks.specs.Laws.{GoalsAreWalks}
use Rattle.base.proofs.Lists.{all_append, all_more}
use Rattle.walks.proofs.Some.{all_joined, all_mapped, all_counted}
use Rattle.walks.proofs.Aborting.{goes_on-parts, has_abort-last}

-- a path of such a stage that meets the test
record IsLegOf (m : ModelTree) (S : Stage → Type 0) (test : Test) (leg : Leg) : Type 0 where
  of_stage : S leg.stage
  is_leg : IsLeg m leg
  meant : test (leg_path m leg) ≡ true

module _ (m : ModelTree) where
  among : (S : Stage → Type 0) (test : Test) (s : Stage) → S s → (n : ℕ) (ps : List (List PrimitiveTree))
      → ((j : ℕ) (p : List PrimitiveTree) → slice_get ps j ≡ Some p → numbered (stage_paths m s) (n + j) ≡ Some p)
      → AllByRecursion (IsLegOf m S test) (legs_among test s n ps)
  among S test s is n [] at = tt
  among S test s is n (p ∷ ps) at = by (test p) refl (among S test s is (suc n) ps later)
    where
      later : (j : ℕ) (q : List PrimitiveTree) → slice_get ps j ≡ Some q → numbered (stage_paths m s) (suc n + j)
          ≡ Some q
      later j q here = let next : n + suc j ≡ suc n + j = omega arith in
          subst (λ i. numbered (stage_paths m s) i ≡ Some q) next (at (suc j) q here)

      first : numbered (stage_paths m s) n ≡ Some p
      first = let e : n + 0 ≡ n = omega arith in subst (λ i. numbered (stage_paths m s) i ≡ Some p) e (at 0 p refl)

      by : (b : Bool) → test p ≡ b → AllByRecursion (IsLegOf m S test) (legs_among test s (suc n) ps)
          → AllByRecursion (IsLegOf m S test)
          (cond b (record { stage = s; path = n } ∷ legs_among test s (suc n) ps) (legs_among test s (suc n) ps))
      by true meant rest = (
        record {
          of_stage = is;
          is_leg = record { path = p; is_path = first };
          meant = ap test (ap path_of first) ∙ meant;
        },
        rest,
      )
      by false not_meant rest = rest

  legs_of_stage : (S : Stage → Type 0) (test : Test) (s : Stage) → S s
      → AllByRecursion (IsLegOf m S test) (stage_legs m test s)
  legs_of_stage S test s is = among S test s is 1 (stage_paths m s)
      (λ j p at. let e : suc j ≡ 1 + j = omega arith in
      subst (λ i. numbered (stage_paths m s) i ≡ Some p) e at)

  of_actions : (test : Test) → AllByRecursion (IsLegOf m IsAction test) (action_legs m test)
  of_actions test =
      all_joined (λ a. a < 0 + length m.actions) (IsLegOf m IsAction test) (λ a. stage_legs m test (stage.Action a))
      (λ a lt. legs_of_stage IsAction test (stage.Action a) tt) (count_from 0 (length m.actions))
      (all_counted 0 (length m.actions))

  -- a first leg of such a stage, and k actions behind it
  abbrev Stands : (Stage → Type 0) → ℕ → List Leg → Type 0
  Stands S k [] = ⊥
  Stands S zero (leg ∷ legs) = IsLegOf m S any_path leg × (legs ≡ [])
  Stands S (suc k) (leg ∷ legs) = IsLegOf m S goes_on leg × Stands IsAction k legs

  each_stands : (S : Stage → Type 0) (k : ℕ) (legs : List Leg)
      → AllByRecursion (IsLegOf m S (may_stand any_path k)) legs
      → AllByRecursion (Stands S k) (one_of_each (legs ∷ action_choices m any_path k))
  each_stands S zero legs all =
      all_joined (IsLegOf m S any_path) (Stands S zero) (λ leg. map (λ more. leg ∷ more) ([] ∷ []))
      (λ leg is. ((is, refl), tt)) legs all
  each_stands S (suc k) legs all =
      all_joined (IsLegOf m S goes_on) (Stands S (suc k))
      (λ leg. map (λ more. leg ∷ more) (one_of_each (action_choices m any_path (suc k))))
      (λ leg is. all_mapped (Stands IsAction k) (Stands S (suc k)) (λ more. leg ∷ more) (λ more stands. (is, stands))
      (one_of_each (action_choices m any_path (suc k)))
      (each_stands IsAction k (action_legs m (may_stand any_path k)) (of_actions (may_stand any_path k)))) legs all

  opened : (b : Bool) → not b ≡ true → b ≡ false
  opened true e = absurd (cc e)
  opened false e = refl

  each_leg : (S : Stage → Type 0) (k : ℕ) (legs : List Leg) → Stands S k legs → AllByRecursion (IsLeg m) legs
  each_leg S k [] h = tt
  each_leg S zero (leg ∷ legs) h = (h.0.is_leg, subst (λ ls. AllByRecursion (IsLeg m) ls) (sym h.1) tt)
  each_leg S (suc k) (leg ∷ legs) h = (h.0.is_leg, each_leg IsAction k legs h.1)

  last_aborts : (S : Stage → Type 0) (k : ℕ) (legs : List Leg) → Stands S k legs → AbortsLast m legs
  last_aborts S k [] h = tt
  last_aborts S zero (leg ∷ legs) h = ((λ e. h.1), subst (λ ls. AbortsLast m ls) (sym h.1) tt)
  last_aborts S (suc k) (leg ∷ legs) h = (
    λ e. absurd (differ (has_abort (leg_path m leg)) e (opened (has_abort (leg_path m leg)) h.0.meant)),
    last_aborts IsAction k legs h.1,
  )
    where
      differ : (b : Bool) → b ≡ true → b ≡ false → ⊥
      differ true e f = cc f
      differ false e f = cc e

  are_later : (k : ℕ) (legs : List Leg) → Stands IsAction k legs → AreLater legs
  are_later k [] h = tt
  are_later zero (leg ∷ legs) h = inl (h.0.of_stage, subst AreLater (sym h.1) tt)
  are_later (suc k) (leg ∷ legs) h = inl (h.0.of_stage, are_later k legs h.1)

  in_order : (k : ℕ) (legs : List Leg) → Stands IsInit k legs → AreInOrder legs
  in_order k [] h = h
  in_order zero (leg ∷ legs) h = (h.0.of_stage, subst AreLater (sym h.1) tt)
  in_order (suc k) (leg ∷ legs) h = (h.0.of_stage, are_later k legs h.1)

  -- one more leg at the end
  legs_and : (legs : List Leg) (leg : Leg) → AllByRecursion (IsLeg m) legs → IsLeg m leg
      → AllByRecursion (IsLeg m) (legs ++ leg ∷ [])
  legs_and [] leg all is = (is, tt)
  legs_and (x ∷ legs) leg all is = (all.0, legs_and legs leg all.1 is)

  aborts_behind : (legs : List Leg) (leg : Leg) → has_abort (joined m legs) ≡ false → AbortsLast m (legs ++ leg ∷ [])
  aborts_behind [] leg goes = ((λ e. refl), tt)
  aborts_behind (x ∷ legs) leg goes =
      let parts = goes_on-parts m x legs goes in (
        λ e. absurd (differ (has_abort (leg_path m x)) e parts.0),
        aborts_behind legs leg parts.1,
      )
    where
      differ : (b : Bool) → b ≡ true → b ≡ false → ⊥
      differ true e f = cc f
      differ false e f = cc e

  later_and : (legs : List Leg) (leg : Leg) → leg.stage ≡ stage.Final
      → ((k : ℕ) × Stands IsAction k legs) ⊎ (legs ≡ []) → AreLater (legs ++ leg ∷ [])
  later_and [] leg is h = inr (is, refl)
  later_and (x ∷ legs) leg is (inr none) = absurd (cc none)
  later_and (x ∷ legs) leg is (inl (zero, h)) = inl (h.0.of_stage, later_and legs leg is (inr h.1))
  later_and (x ∷ legs) leg is (inl (suc k, h)) = inl (h.0.of_stage, later_and legs leg is (inl (k, h.1)))

  order_and : (k : ℕ) (legs : List Leg) (leg : Leg) → Stands IsInit k legs → leg.stage ≡ stage.Final
      → AreInOrder (legs ++ leg ∷ [])
  order_and k [] leg h is = absurd h
  order_and zero (x ∷ legs) leg h is = (h.0.of_stage, later_and legs leg is (inr h.1))
  order_and (suc k) (x ∷ legs) leg h is = (h.0.of_stage, later_and legs leg is (inl (k, h.1)))

  are_legs : (k : ℕ) (legs : List Leg) → Stands IsInit k legs → AreLegs m legs
  are_legs k legs h = record {
    order = in_order k legs h;
    each = each_leg IsInit k legs h;
    last = last_aborts IsInit k legs h;
  }

  goals_of_walk : (k : ℕ) (legs : List Leg) → Stands IsInit k legs → AllByRecursion (IsWalk m) (walk_goals m legs)
  goals_of_walk k legs h = by (has_abort (joined m legs)) refl
    where
      by : (b : Bool) → has_abort (joined m legs) ≡ b → AllByRecursion (IsWalk m)
          (cond b (goal_along legs about.Abort ∷ []) (open_goals m legs))
      by true aborts = (
        record { legs = are_legs k legs h; kind = aborts; about = tt },
        tt,
      )
      by false goes =
          all_append (IsWalk m) (map (λ c. goal_along legs (about.Conjecture c)) (count_from 0 (length m.conjectures)))
          (map (λ leg. goal_along (legs ++ leg ∷ []) about.Abort) (stage_legs m has_abort stage.Final))
          (all_mapped (λ c. c < 0 + length m.conjectures) (IsWalk m) (λ c. goal_along legs (about.Conjecture c))
          (λ c lt. record { legs = are_legs k legs h; kind = ap not goes; about = omega (arith, lt) })
          (count_from 0 (length m.conjectures)) (all_counted 0 (length m.conjectures)))
          (all_mapped (IsLegOf m (λ s. s ≡ stage.Final) has_abort) (IsWalk m)
          (λ leg. goal_along (legs ++ leg ∷ []) about.Abort)
          (λ leg is. record {
            legs = record {
              order = order_and k legs leg h is.of_stage;
              each = legs_and legs leg (each_leg IsInit k legs h) is.is_leg;
              last = aborts_behind legs leg goes;
            };
            kind = has_abort-last m legs leg goes is.meant;
            about = tt;
          })
          (stage_legs m has_abort stage.Final)
          (legs_of_stage (λ s. s ≡ stage.Final) has_abort stage.Final refl))

listed : (m : ModelTree) (k : ℕ) → AllByRecursion (Stands m IsInit k) (walks_of m k)
listed m k =
    each_stands m IsInit k (stage_legs m (may_stand any_path k) stage.Init)
    (legs_of_stage m IsInit (may_stand any_path k) stage.Init tt)

pub listed_are_legs : ListedAreLegs
listed_are_legs m k = all_more (Stands m IsInit k) (AreLegs m) (are_legs m k) (walks_of m k) (listed m k)

pub goals_are_walks : GoalsAreWalks
goals_are_walks m k =
    all_joined (Stands m IsInit k) (IsWalk m) (walk_goals m) (goals_of_walk m k) (walks_of m k) (listed m k)
