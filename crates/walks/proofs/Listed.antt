-- Which legs are listed.
use Rattle.std.proofs.Common.{◌≡◌, inl, inr, ℕ, zero, suc, ◌+◌, Bool, true, false, cond, Some, List, []}
use Rattle.std.proofs.Common.{◌∷◌, length, map, sym, ap, ◌∙◌, subst, arith}
use Rattle.std.specs.Prelude.{slice_get}
use Rattle.base.proofs.Lists.{at-below}
use Rattle.rml_command.specs.Trees.{PrimitiveTree, CommandTree}
use Rattle.base.specs.Lists.{SomeOf, count_from}
use Rattle.rml_command.specs.Paths.{paths_of}
use Rattle.rml_command.specs.Models.{ModelTree}
use Rattle.rml_command.specs.Goals.{block_of, paths_of_block}
use Rattle.rml_command.specs.declared.goal.Stage.{Stage}
use Rattle.rml_command.specs.declared.goal.Stage.TheVariants as stage
use Rattle.walks.specs.declared.leg.Leg.{Leg}
use Rattle.walks.specs.Walks.{Test, legs_among, stage_legs, action_legs, one_of_each, path_of, leg_path}
use Rattle.walks.proofs.Some.{some_joined, some_mapped, some_then, some_counted}

abbrev pub leg_at : Stage → ℕ → Leg
leg_at s n = record { stage = s; path = n }

-- a path that is meant is listed
behind_first : (P : Leg → Type 0) (b : Bool) (leg : Leg) (legs : List Leg) → SomeOf P legs
    → SomeOf P (cond b (leg ∷ legs) legs)
behind_first P true leg legs h = inr h
behind_first P false leg legs h = h

pub listed_among : (test : Test) (s : Stage) (n i j : ℕ) (ps : List (List PrimitiveTree)) (p : List PrimitiveTree)
    → j ≡ n + i → slice_get ps i ≡ Some p → test p ≡ true
    → SomeOf (λ leg. leg ≡ leg_at s j) (legs_among test s n ps)
listed_among test s n i j [] p e at is = absurd (cc at)
listed_among test s n zero j (q ∷ ps) p e at is =
    let same : q ≡ p = cc at in
    let here : n ≡ j = omega arith in
    let first : SomeOf (λ leg. leg ≡ leg_at s j) (leg_at s n ∷ legs_among test s (suc n) ps) = inl
    (ap (leg_at s) here) in
    subst (λ b. SomeOf (λ leg. leg ≡ leg_at s j) (cond b (leg_at s n ∷ legs_among test s (suc n) ps)
    (legs_among test s (suc n) ps))) (sym (ap test same ∙ is)) first
listed_among test s n (suc i) j (q ∷ ps) p e at is =
    behind_first (λ leg. leg ≡ leg_at s j) (test q) (leg_at s n) (legs_among test s (suc n) ps)
    (listed_among test s (suc n) i j ps p (omega arith) at is)

module _ (m : ModelTree) where
  pub listed : (test : Test) (s : Stage) (block : CommandTree) (i : ℕ) (p : List PrimitiveTree)
      → block_of m s ≡ Some block → slice_get (paths_of block) i ≡ Some p → test p ≡ true
      → SomeOf (λ leg. leg ≡ leg_at s (suc i)) (stage_legs m test s)
  listed test s block i p is at meant =
      let e : suc i ≡ 1 + i = omega arith in
      subst (λ b. SomeOf (λ leg. leg ≡ leg_at s (suc i)) (legs_among test s 1 (paths_of_block b))) (sym is)
      (listed_among test s 1 i (suc i) (paths_of block) p e at meant)

  pub listed_action : (test : Test) (a : ℕ) (action : CommandTree) (i : ℕ) (p : List PrimitiveTree)
      → slice_get m.actions a ≡ Some action → slice_get (paths_of action) i ≡ Some p → test p ≡ true
      → SomeOf (λ leg. leg ≡ leg_at (stage.Action a) (suc i)) (action_legs m test)
  listed_action test a action i p is at meant =
      some_joined (λ leg. leg ≡ leg_at (stage.Action a) (suc i)) (λ b. stage_legs m test (stage.Action b))
      (count_from 0 (length m.actions))
      (some_counted
      (λ b. SomeOf (λ leg. leg ≡ leg_at (stage.Action a) (suc i)) (stage_legs m test (stage.Action b)))
      0 (length m.actions) a (at-below m.actions a action is)
      (subst (λ (b : ℕ). SomeOf (λ leg. leg ≡ leg_at (stage.Action a) (suc i)) (stage_legs m test (stage.Action b)))
      (omega arith) (listed test (stage.Action a) action i p is at meant)))

  -- the path of such a leg
  pub path_at : (s : Stage) (block : CommandTree) (i : ℕ) (p : List PrimitiveTree) → block_of m s ≡ Some block
      → slice_get (paths_of block) i ≡ Some p → leg_path m (leg_at s (suc i)) ≡ p
  path_at s block i p is at =
      ap (λ b. path_of (slice_get (paths_of_block b) i)) is ∙ ap path_of at

-- a list with this one first
pub one_in : (P : List Leg → Type 0) (leg : Leg) (legs : List Leg) (rest : List (List Leg)) → SomeOf (λ l. l ≡ leg) legs
    → SomeOf (λ more. P (leg ∷ more)) (one_of_each rest) → SomeOf P (one_of_each (legs ∷ rest))
one_in P leg legs rest here more =
    some_joined P (λ l. map (λ more. l ∷ more) (one_of_each rest)) legs
    (some_then (λ l. l ≡ leg) (λ l. SomeOf P (map (λ more. l ∷ more) (one_of_each rest))) legs here
    (λ l e. some_mapped P (λ more. l ∷ more) (one_of_each rest)
    (subst (λ x. SomeOf (λ more. P (x ∷ more)) (one_of_each rest)) (sym e) more)))
