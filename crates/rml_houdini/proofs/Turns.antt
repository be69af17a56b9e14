-- The turns of the loops over paths, conjectures and actions.
use Rattle.std.proofs.Common.{◌≡◌, ◌+◌, ◌-◌, ◌<◌, ◌≤◌, ℕ, true, false, List, ◌∷◌, ◌++◌, length, drop, get_or, map}
use Rattle.std.proofs.Common.{Option, Some, None, sym, subst, arith}
use Rattle.std.specs.Prelude.{slice_get}
use Rattle.std.specs.List.{flat_map}
use Rattle.rml_command.specs.Trees.{PrimitiveTree}
use Rattle.base.specs.Lists.{count_from}
use Rattle.rml_command.specs.Models.{ModelTree}
use Rattle.rml_command.specs.Goals.{goals_among, group_goals, is_for, stage_paths, IsGoal}
use Rattle.rml_command.specs.declared.goal.Head.{Head}
use Rattle.rml_command.specs.declared.goal.Stage.{Stage}
use Rattle.rml_command.specs.declared.goal.Stage.TheVariants as stage
use Rattle.rml_command.specs.declared.goal.Goal.{Goal}
use Rattle.rml_exec.specs.declared.trace.Counterexample.{Counterexample}
use Rattle.rml_command.specs.InductiveSets.{conjectures_of}
use Rattle.limits.specs.declared.cause.Cause.{Cause}
use Rattle.limits.specs.Ceilings.{Ceilings}
use Rattle.lean_decide.specs.declared.settling.Counted.{Counted}
use Rattle.rml_houdini.specs.Counts.{PassesFirst}
use Rattle.rml_houdini.specs.Rounds.{group_at, stage_goals, goals_about, IsSafe, IsOpen}
use Rattle.rml_houdini.specs.Progress.{action_goals, Leads, IsRound}
use Rattle.rml_houdini.specs.declared.round.Round.{Round}
use Rattle.rml_houdini.specs.declared.round.Round.TheVariants.{Fails, Passes}
use Rattle.rml_houdini.proofs.Steps.{Completes, behind_safe, behind_open, behind_list, in_list, round_failing, at_last}
use Rattle.rml_houdini.proofs.Steps.{round_front, round_then, behind_first}
use Rattle.rml_houdini.proofs.Paths.{passed, listed, no_path, next_of, none_of, actions_from, next_action, no_action}
use Rattle.obligation_decide.specs.GoalDecisions.{IsFailing}
use Rattle.std.specs.Option.{option_or}

module _ (counted : Counted) (limits : Ceilings) (m : ModelTree) (held : List ℕ) (start : Option (Goal × Cause)) where
  -- the goals of a group, along its paths
  module _ (group : Head) (ps : List (List PrimitiveTree)) where
    abbrev pub ThroughPaths : Option (Goal × Cause) → ℕ → Type 0
    ThroughPaths now i = Completes counted limits m held start (group_goals m group) now
        (goals_among group (i + 1) (drop i ps))

    abbrev pub goal_at : ℕ → Goal
    goal_at i = record { stage = group.stage; path = i + 1; about = group.about }

    pub first_path : ps ≡ stage_paths m group.stage → ThroughPaths start 0
    first_path same r h =
        subst (λ (qs : List (List PrimitiveTree)). IsRound counted limits m held start (goals_among group 1 qs) r) same
        h

    module _ (now : Option (Goal × Cause)) (i : ℕ) (p : List PrimitiveTree) (at : slice_get ps i ≡ Some p)
        (whole : ThroughPaths now i) where
      pub path_passed : is_for group.about p ≡ false → ThroughPaths now (i + 1)
      path_passed other r h =
          whole r (subst (λ (gs : List Goal). IsRound counted limits m held now gs r)
          (sym (passed group ps i p at other)) h)

      here : is_for group.about p ≡ true → Completes counted limits m held start (group_goals m group) now
          (goal_at i ∷ goals_among group (i + 1 + 1) (drop (i + 1) ps))
      here kind r h =
          whole r (subst (λ (gs : List Goal). IsRound counted limits m held now gs r)
          (sym (listed group ps i p at kind)) h)

      pub path_safe : is_for group.about p ≡ true → IsSafe counted limits m held (goal_at i) → ThroughPaths now (i + 1)
      path_safe kind safe =
          behind_safe counted limits m held start (group_goals m group) now (goal_at i)
          (goals_among group (i + 1 + 1) (drop (i + 1) ps)) (here kind) safe

      pub path_open : is_for group.about p ≡ true → (c : Cause) → IsOpen counted limits m held (goal_at i) c
          → ThroughPaths (option_or now (Some ((goal_at i), c))) (i + 1)
      path_open kind c left =
          behind_open counted limits m held start (group_goals m group) now (goal_at i) c
          (goals_among group (i + 1 + 1) (drop (i + 1) ps)) (here kind) left

      pub path_fails : is_for group.about p ≡ true → (shown : Counterexample) → IsGoal m (goal_at i)
          → PassesFirst counted limits m held (goal_at i) None
          → IsFailing limits m (conjectures_of m held) (goal_at i) shown
          → IsRound counted limits m held start (group_goals m group) (Fails shown)
      path_fails kind shown is within fails =
          here kind (Fails shown) (round_failing counted limits m held now (goal_at i)
          (goals_among group (i + 1 + 1) (drop (i + 1) ps)) shown is within fails)

    pub paths_end : (now : Option (Goal × Cause)) (i : ℕ) → length ps ≤ i → ThroughPaths now i
        → IsRound counted limits m held start (group_goals m group) (Passes now)
    paths_end now i le whole =
        at_last counted limits m held start (group_goals m group) now
        (subst (λ (gs : List Goal). Completes counted limits m held start (group_goals m group) now gs)
        (no_path group ps i le) whole)

  -- the goals of a stage, along the conjectures
  module _ (st : Stage) where
    abbrev pub ThroughHeld : Option (Goal × Cause) → ℕ → Type 0
    ThroughHeld now i = Completes counted limits m held start (stage_goals m held st) now
        (flat_map (λ k. group_goals m (group_at st k)) (drop i held))

    module _ (now : Option (Goal × Cause)) (i k : ℕ) (lt : i < length held) (is : k ≡ get_or held i 0)
        (whole : ThroughHeld now i) where
      group-here : Completes counted limits m held start (stage_goals m held st) now
          (group_goals m (group_at st k) ++ flat_map (λ k. group_goals m (group_at st k)) (drop (i + 1) held))
      group-here =
          subst (λ (gs : List Goal). Completes counted limits m held start (stage_goals m held st) now gs)
          (next_of (λ k. group_goals m (group_at st k)) held i k lt is) whole

      pub group_passes : (more : Option (Goal × Cause))
          → Leads counted limits m held None (group_goals m (group_at st k)) more
          → ThroughHeld (option_or now more) (i + 1)
      group_passes more lead =
          behind_list counted limits m held start (stage_goals m held st) now (group_goals m (group_at st k))
          (flat_map (λ k. group_goals m (group_at st k)) (drop (i + 1) held)) (option_or now more) group-here
          (behind_first counted limits m held now (group_goals m (group_at st k)) more lead)

      pub group_fails : (shown : Counterexample)
          → IsRound counted limits m held None (group_goals m (group_at st k)) (Fails shown)
          → IsRound counted limits m held start (stage_goals m held st) (Fails shown)
      group_fails shown h =
          in_list counted limits m held start (stage_goals m held st) now (group_goals m (group_at st k))
          (flat_map (λ k. group_goals m (group_at st k)) (drop (i + 1) held)) shown group-here h

    pub held_end : (now : Option (Goal × Cause)) (i : ℕ) → length held ≤ i → ThroughHeld now i
        → IsRound counted limits m held start (stage_goals m held st) (Passes now)
    held_end now i le whole =
        at_last counted limits m held start (stage_goals m held st) now
        (subst (λ (gs : List Goal). Completes counted limits m held start (stage_goals m held st) now gs)
        (none_of (λ k. group_goals m (group_at st k)) held i le) whole)

-- the goals of a round, along the actions
module _ (counted : Counted) (limits : Ceilings) (m : ModelTree) (held : List ℕ) where
  pub init_fails : (shown : Counterexample)
      → IsRound counted limits m held None (stage_goals m held stage.Init) (Fails shown)
      → IsRound counted limits m held None (goals_about m held) (Fails shown)
  init_fails shown h = round_front counted limits m held None (stage_goals m held stage.Init) (action_goals m held)
      shown h

  pub init_passes : (now : Option (Goal × Cause)) (r : Round)
      → Leads counted limits m held None (stage_goals m held stage.Init) now
      → IsRound counted limits m held now (action_goals m held) r
      → IsRound counted limits m held None (goals_about m held) r
  init_passes now r lead h =
      round_then counted limits m held None now (stage_goals m held stage.Init) (action_goals m held) r lead h

  module _ (start : Option (Goal × Cause)) where
    abbrev pub ThroughActions : Option (Goal × Cause) → ℕ → ℕ → Type 0
    ThroughActions now a n = Completes counted limits m held start (action_goals m held) now
        (flat_map (λ s. stage_goals m held s) (actions_from a n))

    pub first_action : (n : ℕ) → n ≡ length m.actions → ThroughActions start 0 n
    first_action n is r h =
        let e : n - 0 ≡ length m.actions = omega (arith, is) in
        subst (λ (i : ℕ). IsRound counted limits m held start (flat_map (λ s. stage_goals m held s)
        (map (λ k. stage.Action k) (count_from 0 i))) r) e h

    module _ (now : Option (Goal × Cause)) (a n : ℕ) (lt : a < n) (whole : ThroughActions now a n) where
      stage-here : Completes counted limits m held start (action_goals m held) now
          (stage_goals m held (stage.Action a) ++ flat_map (λ s. stage_goals m held s) (actions_from (a + 1) n))
      stage-here =
          subst (λ (ss : List Stage). Completes counted limits m held start (action_goals m held) now
          (flat_map (λ s. stage_goals m held s) ss)) (next_action a n lt) whole

      pub action_passes : (new : Option (Goal × Cause))
          → Leads counted limits m held now (stage_goals m held (stage.Action a)) new → ThroughActions new (a + 1) n
      action_passes new lead =
          behind_list counted limits m held start (action_goals m held) now (stage_goals m held (stage.Action a))
          (flat_map (λ s. stage_goals m held s) (actions_from (a + 1) n)) new stage-here lead

      pub action_fails : (shown : Counterexample)
          → IsRound counted limits m held now (stage_goals m held (stage.Action a)) (Fails shown)
          → IsRound counted limits m held start (action_goals m held) (Fails shown)
      action_fails shown h =
          in_list counted limits m held start (action_goals m held) now (stage_goals m held (stage.Action a))
          (flat_map (λ s. stage_goals m held s) (actions_from (a + 1) n)) shown stage-here h

    pub actions_end : (now : Option (Goal × Cause)) (a n : ℕ) → n ≤ a → ThroughActions now a n
        → IsRound counted limits m held start (action_goals m held) (Passes now)
    actions_end now a n le whole =
        at_last counted limits m held start (action_goals m held) now
        (subst (λ (ss : List Stage). Completes counted limits m held start (action_goals m held) now
        (flat_map (λ s. stage_goals m held s) ss)) (no_action a n le) whole)
