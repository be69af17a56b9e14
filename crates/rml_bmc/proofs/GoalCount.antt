-- A length that is decided has no more goals than have numbers.
use Rattle.std.proofs.Common.{◌≡◌, ℕ, zero, suc, ◌+◌, ◌*◌, ◌<◌, ◌≤◌, ◌^◌, Bool, true, false, List, [], ◌∷◌, ◌++◌}
use Rattle.std.proofs.Common.{length, map}
use Rattle.std.proofs.Common.{refl, sym, ap, arith}
use Rattle.std.specs.Prelude.{if◌then◌else◌}
use Rattle.std.specs.List.{flat_map}
use Rattle.rml_command.specs.Trees.{PrimitiveTree}
use Rattle.rml_command.specs.Paths.{has_abort}
use Rattle.base.specs.Lists.{count_from}
use Rattle.rml_command.specs.Models.{ModelTree}
use Rattle.rml_command.specs.Fragment.{IsChecked}
use Rattle.rml_command.specs.Goals.{stage_paths}
use Rattle.rml_command.specs.declared.goal.Stage.{Stage}
use Rattle.rml_command.specs.declared.goal.Stage.TheVariants as stage
use Rattle.rml_command.specs.declared.goal.About.TheVariants as about
use Rattle.walks.specs.declared.leg.Leg.{Leg}
use Rattle.walks.specs.declared.leg.Walk.{Walk}
use Rattle.walks.specs.Walks.{Test, legs_among, stage_legs, goal_along, open_goals, walk_goals, joined}

legs-few : (test : Test) (s : Stage) (n : ℕ) (ps : List (List PrimitiveTree))
    → length (legs_among test s n ps) ≤ length ps
legs-few test s n [] = omega arith
legs-few test s n (p ∷ ps) =
    by (test p) (record { stage = s; path = n }) (legs_among test s (suc n) ps) (legs-few test s (suc n) ps)
  where
    by : (b : Bool) (x : Leg) (more : List Leg) → length more ≤ length ps
        → length (if b then x ∷ more else more) ≤ suc (length ps)
    by true x more le = omega (arith, le)
    by false x more le = omega (arith, le)

pub length-counted : (f : ℕ → Walk) (k n : ℕ) → length (map f (count_from k n)) ≡ n
length-counted f k zero = refl
length-counted f k (suc n) = ap (λ (i : ℕ). suc i) (length-counted f (suc k) n)

pub length-made : (f : Leg → Walk) (legs : List Leg) → length (map f legs) ≡ length legs
length-made f [] = refl
length-made f (leg ∷ legs) = ap (λ (i : ℕ). suc i) (length-made f legs)

pub length-both : (xs ys : List Walk) → length (xs ++ ys) ≡ length xs + length ys
length-both [] ys = let e : 0 + length ys ≡ length ys = omega arith in sym e
length-both (x ∷ xs) ys = let h = length-both xs ys in omega (arith, h)

module _ (m : ModelTree) (checked : IsChecked m) where
  conjectures-few : length m.conjectures ≤ 1000
  conjectures-few = let few = checked.model.few in omega (arith, few)

  open-few : (legs : List Leg) → length (open_goals m legs) ≤ 5096
  open-few legs =
      let f = λ (k : ℕ). goal_along legs (about.Conjecture k) in
      let g = λ (leg : Leg). goal_along (legs ++ leg ∷ []) about.Abort in
      let a = length-counted f 0 (length m.conjectures) in
      let b = length-made g (stage_legs m has_abort stage.Final) in
      let c = legs-few has_abort stage.Final 1 (stage_paths m stage.Final) in
      let d = length-both (map f (count_from 0 (length m.conjectures))) (map g (stage_legs m has_abort stage.Final)) in
      let few : length m.conjectures ≤ 1000 = conjectures-few in
      let paths : length (stage_paths m stage.Final) ≤ 4096 = checked.few_paths.last in
      omega (arith, a, b, c, d, few, paths)

  walk-few : (legs : List Leg) → length (walk_goals m legs) ≤ 5096
  walk-few legs = by (has_abort (joined m legs)) (open_goals m legs) (open-few legs)
    where
      by : (b : Bool) (more : List Walk) → length more ≤ 5096
          → length (if b then goal_along legs about.Abort ∷ [] else more) ≤ 5096
      by true more le = omega arith
      by false more le = le

  goals-few : (ps : List (List Leg)) → length (flat_map (walk_goals m) ps) ≤ length ps * 5096
  goals-few [] = omega arith
  goals-few (p ∷ ps) =
      let a = walk-few p in
      let b = goals-few ps in
      let c = length-both (walk_goals m p) (flat_map (walk_goals m) ps) in
      omega (arith, a, b, c)

  -- the goals of so many walks have numbers of 64 bits
  pub goals_have_room : (ps : List (List Leg)) → length ps ≤ 4096
      → 0 + length (flat_map (walk_goals m) ps) < 2 ^ 64
  goals_have_room ps le = let few = goals-few ps in omega (arith, le, few)
