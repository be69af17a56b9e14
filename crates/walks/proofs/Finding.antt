-- A run that aborts or breaks a conjecture goes along a goal with at most as many actions.
use Rattle.std.proofs.Common.{◌≡◌, ◌⊎◌, inl, inr, ℕ, zero, suc, ◌+◌, ◌≤◌, Bool, true, false, not, cond, Option, Some}
use Rattle.std.proofs.Common.{List, [], ◌∷◌, ◌++◌, length, map, refl, sym, ap, ◌∙◌, subst, arith}
use Rattle.std.specs.List.{flat_map}
use Rattle.base.proofs.Lists.{at-below, some_left, some_right}
use Rattle.fol_sig.specs.Tables.{Tables}
use Rattle.rml_command.specs.Trees.{PrimitiveTree, CommandTree}
use Rattle.rml_command.specs.Outcomes.{Outcome, ended, aborted, HasOutcome, PathHasOutcome}
use Rattle.base.specs.Lists.{SomeOf, count_from}
use Rattle.rml_command.specs.Paths.{has_abort, paths_of}
use Rattle.rml_command.specs.Models.{ModelTree}
use Rattle.rml_command.specs.Goals.{block_of}
use Rattle.rml_command.specs.Runs.{Step, Run, Leads, Closes, IsRun, SomeAborts, Aborts, BreaksAt, SomeBreaks}
use Rattle.rml_command.specs.Runs.{Breaks}
use Rattle.rml_command.specs.Laws.{BlockHasPathOutcomes, PathsKeepKind}
use Rattle.rml_command.specs.declared.goal.Stage.{Stage}
use Rattle.rml_command.specs.declared.goal.Stage.TheVariants as stage
use Rattle.rml_command.specs.declared.goal.About.{About}
use Rattle.rml_command.specs.declared.goal.About.TheVariants as about
use Rattle.walks.specs.declared.leg.Leg.{Leg}
use Rattle.walks.specs.declared.leg.Walk.{Walk}
use Rattle.walks.specs.Walks.{Test, any_path, goes_on, stage_legs, action_legs, may_stand, action_choices, one_of_each}
use Rattle.walks.specs.Walks.{leg_path, joined, goal_along, open_goals, walk_goals, goals_of_length}
use Rattle.walks.specs.Runs.{Along, IsForbidden, HasRun, IsSafeLength}
use Rattle.walks.specs.Laws.{BoundedIsSound}
use Rattle.walks.proofs.Some.{some_then, some_parts, some_joined, some_split, some_mapped}
use Rattle.walks.proofs.Some.{some_unmapped, some_at, some_counted, none_of}
use Rattle.walks.proofs.Aborting.{has_abort-one, has_abort-behind}
use Rattle.walks.proofs.Listed.{leg_at, listed, listed_action, path_at, one_in}

module _ (blocks : BlockHasPathOutcomes) (kinds : PathsKeepKind) (m : ModelTree) where
  -- a run along the goal from this structure
  abbrev RunFrom : Tables → Walk → Type 0
  RunFrom s walk = (o : Outcome) × Along m walk.parts s o × IsForbidden m walk.about o

  abbrev GoalsOf : Tables → List Leg → Type 0
  GoalsOf s legs = SomeOf (RunFrom s) (walk_goals m legs)

  abbrev tail_walks : (Test → List Leg) → ℕ → List (List Leg)
  tail_walks first k = one_of_each (first (may_stand any_path k) ∷ action_choices m any_path k)

  -- a goal with at most n actions behind the first leg
  record Found (first : Test → List Leg) (s : Tables) (n : ℕ) : Type 0 where
    steps : ℕ
    few : steps ≤ n
    goal : SomeOf (RunFrom s) (flat_map (walk_goals m) (tail_walks first steps))

  -- the leg is listed wherever a test does not leave its path out
  abbrev IsListed : (Test → List Leg) → Leg → Type 0
  IsListed first leg = (test : Test) → test (leg_path m leg) ≡ true → SomeOf (λ l. l ≡ leg) (first test)

  -- the goals of a walk that aborts, and of one that does not
  goals_aborted : (s : Tables) (legs : List Leg) → has_abort (joined m legs) ≡ true
      → RunFrom s (goal_along legs about.Abort) → GoalsOf s legs
  goals_aborted s legs e h =
      subst (λ b. SomeOf (RunFrom s) (cond b (goal_along legs about.Abort ∷ []) (open_goals m legs))) (sym e) (inl h)

  goals_open : (s : Tables) (legs : List Leg) → has_abort (joined m legs) ≡ false
      → SomeOf (RunFrom s) (open_goals m legs)
      → GoalsOf s legs
  goals_open s legs e h =
      subst (λ b. SomeOf (RunFrom s) (cond b (goal_along legs about.Abort ∷ []) (open_goals m legs))) (sym e) h

  -- a walk of one leg
  found_at_once : (first : Test → List Leg) (leg : Leg) (s : Tables) (n : ℕ) → IsListed first leg
      → GoalsOf s (leg ∷ []) → Found first s n
  found_at_once first leg s n here goals = record {
    steps = 0;
    few = omega arith;
    goal = some_joined (RunFrom s) (walk_goals m) (tail_walks first 0)
        (one_in (GoalsOf s) leg (first any_path) [] (here any_path refl) (inl goals));
  }

  -- one more leg in front
  longer : (leg : Leg) (s mid : Tables) (legs : List Leg) (a : About)
      → PathHasOutcome m.axioms (leg_path m leg) s (ended mid)
      → RunFrom mid (goal_along legs a) → RunFrom s (goal_along (leg ∷ legs) a)
  longer leg s mid legs a h run = (run.0, inr (mid, h, run.1), run.2)

  longer_goals : (leg : Leg) (s mid : Tables) (legs : List Leg) (b : Bool)
      → PathHasOutcome m.axioms (leg_path m leg) s (ended mid)
      → SomeOf (RunFrom mid) (cond b (goal_along legs about.Abort ∷ []) (open_goals m legs))
      → SomeOf (RunFrom s) (cond b (goal_along (leg ∷ legs) about.Abort ∷ []) (open_goals m (leg ∷ legs)))
  longer_goals leg s mid legs true h (inl run) = inl (longer leg s mid legs about.Abort h run)
  longer_goals leg s mid legs true h (inr none) = absurd none
  longer_goals leg s mid legs false h some =
      let broken = map (λ k. goal_along legs (about.Conjecture k)) (count_from 0 (length m.conjectures)) in
      let ends = stage_legs m has_abort stage.Final in
      let stops = map (λ l. goal_along (legs ++ l ∷ []) about.Abort) ends in
      let broken_on =
      map (λ k. goal_along (leg ∷ legs) (about.Conjecture k)) (count_from 0 (length m.conjectures)) in
      let stops_on = map (λ l. goal_along ((leg ∷ legs) ++ l ∷ []) about.Abort) ends in
      elim (some_parts (RunFrom mid) broken stops some) [
        | inl g ↦ some_left (RunFrom s) broken_on stops_on
            (some_mapped (RunFrom s) (λ k. goal_along (leg ∷ legs) (about.Conjecture k))
            (count_from 0 (length m.conjectures))
            (some_then (λ k. RunFrom mid (goal_along legs (about.Conjecture k)))
            (λ k. RunFrom s (goal_along (leg ∷ legs) (about.Conjecture k))) (count_from 0 (length m.conjectures))
            (some_unmapped (RunFrom mid) (λ k. goal_along legs (about.Conjecture k))
            (count_from 0 (length m.conjectures)) g)
            (λ k. longer leg s mid legs (about.Conjecture k) h)))
        | inr g ↦ some_right (RunFrom s) broken_on stops_on
            (some_mapped (RunFrom s) (λ l. goal_along ((leg ∷ legs) ++ l ∷ []) about.Abort) ends
            (some_then (λ l. RunFrom mid (goal_along (legs ++ l ∷ []) about.Abort))
            (λ l. RunFrom s (goal_along ((leg ∷ legs) ++ l ∷ []) about.Abort)) ends
            (some_unmapped (RunFrom mid) (λ l. goal_along (legs ++ l ∷ []) about.Abort) ends g)
            (λ l. longer leg s mid (legs ++ l ∷ []) about.Abort h)))
      ]

  found_behind : (first : Test → List Leg) (leg : Leg) (s mid : Tables) (n : ℕ) → IsListed first leg
      → PathHasOutcome m.axioms (leg_path m leg) s (ended mid) → Found (action_legs m) mid n → Found first s (suc n)
  found_behind first leg s mid n here h found =
      let goes = kinds.ends m.axioms (leg_path m leg) s mid h in
      record {
        steps = suc found.steps;
        few = let few = found.few in omega arith;
        goal = some_joined (RunFrom s) (walk_goals m) (tail_walks first (suc found.steps))
            (one_in (GoalsOf s) leg (first goes_on) (action_choices m any_path (suc found.steps))
            (here goes_on (ap not goes))
            (some_then (GoalsOf mid) (λ legs. GoalsOf s (leg ∷ legs)) (tail_walks (action_legs m) found.steps)
            (some_split (RunFrom mid) (walk_goals m) (tail_walks (action_legs m) found.steps) found.goal)
            (λ legs goals.
            subst
            (λ b. SomeOf (RunFrom s) (cond b (goal_along (leg ∷ legs) about.Abort ∷ []) (open_goals m (leg ∷ legs))))
            (sym (has_abort-behind m leg legs goes))
            (longer_goals leg s mid legs (has_abort (joined m legs)) h goals))));
      }

  -- the outcome of a block, as that of a leg
  record LegOf (s : Stage) (from : Tables) (o : Outcome) : Type 0 where
    number : ℕ
    path : List PrimitiveTree
    is_leg : (test : Test) → test path ≡ true → SomeOf (λ l. l ≡ leg_at s number) (stage_legs m test s)
    is_path : leg_path m (leg_at s number) ≡ path
    outcome : PathHasOutcome m.axioms path from o

  leg_of : (s : Stage) (block : CommandTree) (from : Tables) (o : Outcome) → block_of m s ≡ Some block
      → HasOutcome m.axioms block from o → LegOf s from o
  leg_of s block from o is h =
      let w = some_at (λ p. PathHasOutcome m.axioms p from o) (paths_of block) ((blocks m.axioms block from o).0 h) in
      record {
        number = suc w.0;
        path = w.1;
        is_leg = λ test meant. listed m test s block w.0 w.1 is w.2 meant;
        is_path = path_at m s block w.0 w.1 is w.2;
        outcome = w.3;
      }

  is_listed : (first : Test → List Leg) (s : Stage) (number : ℕ) (path : List PrimitiveTree)
      → leg_path m (leg_at s number) ≡ path
      → ((test : Test) → test path ≡ true → SomeOf (λ l. l ≡ leg_at s number) (first test))
      → IsListed first (leg_at s number)
  is_listed first s number path is listed test meant = listed test (sym (ap test is) ∙ meant)

  -- an abort or a broken conjecture, now or later
  abbrev Bad : Outcome → List Step → Option Outcome → Type 0
  Bad o [] last = ((o ≡ aborted) ⊎ BreaksAt m o) ⊎ (last ≡ Some aborted)
  Bad o (step ∷ steps) last = ((o ≡ aborted) ⊎ BreaksAt m o) ⊎ Bad step.outcome steps last

  at_abort : (first : Test → List Leg) (leg : Leg) (s : Tables) (n : ℕ) → IsListed first leg
      → PathHasOutcome m.axioms (leg_path m leg) s aborted → Found first s n
  at_abort first leg s n here h =
      found_at_once first leg s n here
      (goals_aborted s (leg ∷ []) (has_abort-one m leg ∙ kinds.aborts m.axioms (leg_path m leg) s h)
      (aborted, inl (refl, h), refl))

  at_break : (first : Test → List Leg) (leg : Leg) (s t : Tables) (n : ℕ) → IsListed first leg
      → PathHasOutcome m.axioms (leg_path m leg) s (ended t) → BreaksAt m (ended t) → Found first s n
  at_break first leg s t n here h breaks =
      let broken = map (λ k. goal_along (leg ∷ []) (about.Conjecture k)) (count_from 0 (length m.conjectures)) in
      let stops = map (λ l. goal_along ((leg ∷ []) ++ l ∷ []) about.Abort) (stage_legs m has_abort stage.Final) in
      found_at_once first leg s n here
      (goals_open s (leg ∷ []) (has_abort-one m leg ∙ kinds.ends m.axioms (leg_path m leg) s t h)
      (some_left (RunFrom s) broken stops
      (some_mapped (RunFrom s) (λ k. goal_along (leg ∷ []) (about.Conjecture k)) (count_from 0 (length m.conjectures))
      (some_counted (λ k. RunFrom s (goal_along (leg ∷ []) (about.Conjecture k))) 0 (length m.conjectures) breaks.0
      (at-below m.conjectures breaks.0 breaks.1 breaks.2)
      (let e : breaks.0 ≡ 0 + breaks.0 = omega arith in
      subst (λ (k : ℕ). RunFrom s (goal_along (leg ∷ []) (about.Conjecture k))) e
      (ended t, inr (t, h, refl), (breaks.1, t, breaks.2, refl, breaks.3)))))))

  at_final : (first : Test → List Leg) (leg : Leg) (s t : Tables) (n : ℕ) → IsListed first leg
      → PathHasOutcome m.axioms (leg_path m leg) s (ended t) → HasOutcome m.axioms m.last t aborted → Found first s n
  at_final first leg s t n here h closes =
      let broken = map (λ k. goal_along (leg ∷ []) (about.Conjecture k)) (count_from 0 (length m.conjectures)) in
      let ends = stage_legs m has_abort stage.Final in
      let stops = map (λ l. goal_along ((leg ∷ []) ++ l ∷ []) about.Abort) ends in
      let last = leg_of stage.Final m.last t aborted refl closes in
      let aborts = subst (λ p. PathHasOutcome m.axioms p t aborted) (sym last.is_path) last.outcome in
      found_at_once first leg s n here
      (goals_open s (leg ∷ []) (has_abort-one m leg ∙ kinds.ends m.axioms (leg_path m leg) s t h)
      (some_right (RunFrom s) broken stops
      (some_mapped (RunFrom s) (λ l. goal_along ((leg ∷ []) ++ l ∷ []) about.Abort) ends
      (some_then (λ l. l ≡ leg_at stage.Final last.number)
      (λ l. RunFrom s (goal_along ((leg ∷ []) ++ l ∷ []) about.Abort))
      ends (last.is_leg has_abort (kinds.aborts m.axioms last.path t last.outcome))
      (λ l e. subst (λ x. RunFrom s (goal_along (leg ∷ x ∷ []) about.Abort)) (sym e)
      (aborted, inr (t, h, inl (refl, aborts)), refl))))))

  bad_now : (first : Test → List Leg) (leg : Leg) (s : Tables) (n : ℕ) (o : Outcome) → IsListed first leg
      → PathHasOutcome m.axioms (leg_path m leg) s o → ((o ≡ aborted) ⊎ BreaksAt m o) → Found first s n
  bad_now first leg s n aborted here h bad = at_abort first leg s n here h
  bad_now first leg s n (ended t) here h (inl e) = absurd (cc e)
  bad_now first leg s n (ended t) here h (inr breaks) = at_break first leg s t n here h breaks

  bad_final : (first : Test → List Leg) (leg : Leg) (s : Tables) (n : ℕ) (o to : Outcome) (last : Option Outcome)
      → IsListed first leg → PathHasOutcome m.axioms (leg_path m leg) s o → to ≡ o → Closes m to last
      → last ≡ Some aborted → Found first s n
  bad_final first leg s n aborted to last here h is closes e = at_abort first leg s n here h
  bad_final first leg s n (ended t) to last here h is closes e =
      at_final first leg s t n here h
      (subst (λ l. Closes m (ended t) l) e (subst (λ from. Closes m from last) is closes))

  find : (first : Test → List Leg) (leg : Leg) (s : Tables) (o : Outcome) → IsListed first leg
      → PathHasOutcome m.axioms (leg_path m leg) s o → (steps : List Step) (to : Outcome) (last : Option Outcome)
      → Leads m o steps to → Closes m to last → Bad o steps last → (n : ℕ) → length steps ≤ n → Found first s n
  find first leg s o here h [] to last leads closes (inl bad) n lt = bad_now first leg s n o here h bad
  find first leg s o here h [] to last leads closes (inr e) n lt =
      bad_final first leg s n o to last here h leads closes e
  find first leg s o here h (step ∷ steps) to last leads closes (inl bad) n lt = bad_now first leg s n o here h bad
  find first leg s o here h (step ∷ steps) to last leads closes (inr bad) zero lt = absurd (omega (arith, lt))
  find first leg s aborted here h (step ∷ steps) to last leads closes (inr bad) (suc n) lt =
      at_abort first leg s (suc n) here h
  find first leg s (ended t) here h (step ∷ steps) to last leads closes (inr bad) (suc n) lt =
      let w = some_at (λ p. PathHasOutcome m.axioms p t step.outcome) (paths_of leads.0)
      ((blocks m.axioms leads.0 t step.outcome).0 leads.2) in
      let st = stage.Action step.action in
      let is = path_at m st leads.0 w.0 w.1 leads.1 w.2 in
      found_behind first leg s t n here h
      (find (action_legs m) (leg_at st (suc w.0)) t step.outcome
      (is_listed (action_legs m) st (suc w.0) w.1 is
      (λ test meant. listed_action m test step.action leads.0 w.0 w.1 leads.1 w.2 meant))
      (subst (λ p. PathHasOutcome m.axioms p t step.outcome) (sym is) w.3)
      steps to last leads.3 closes bad n (omega (arith, lt)))

  find_run : (run : Run) (n : ℕ) → IsRun m run → length run.steps ≤ n → Bad run.first run.steps run.last
      → Found (λ test. stage_legs m test stage.Init) run.start n
  find_run run n is few bad =
      let l = leg_of stage.Init m.init run.start run.first refl is.init in
      find (λ test. stage_legs m test stage.Init) (leg_at stage.Init l.number) run.start run.first
      (is_listed (λ test. stage_legs m test stage.Init) stage.Init l.number l.path l.is_path l.is_leg)
      (subst (λ p. PathHasOutcome m.axioms p run.start run.first) (sym l.is_path) l.outcome)
      run.steps is.to run.last is.leads is.closes bad n few

  -- no such run, where no goal has one
  none : (run : Run) (n : ℕ) → IsRun m run → length run.steps ≤ n → Bad run.first run.steps run.last
      → ((k : ℕ) → k ≤ n → IsSafeLength m k) → ⊥
  none run n is few bad safe =
      let found = find_run run n is few bad in
      none_of (HasRun m) (goals_of_length m found.steps)
      (some_then (RunFrom run.start) (HasRun m) (goals_of_length m found.steps) found.goal
      (λ walk r. record {
        start = run.start;
        structure = is.structure;
        run = record { lawful = is.lawful; outcome = r.0; along = r.1; forbidden = r.2 };
      }))
      (safe found.steps found.few)

  now : (o : Outcome) (steps : List Step) (last : Option Outcome) → ((o ≡ aborted) ⊎ BreaksAt m o) → Bad o steps last
  now o [] last bad = inl bad
  now o (step ∷ steps) last bad = inl bad

  later_abort : (o : Outcome) (steps : List Step) (last : Option Outcome) → SomeAborts steps → Bad o steps last
  later_abort o [] last h = absurd h
  later_abort o (step ∷ steps) last (inl e) = inr (now step.outcome steps last (inl e))
  later_abort o (step ∷ steps) last (inr h) = inr (later_abort step.outcome steps last h)

  later_break : (o : Outcome) (steps : List Step) (last : Option Outcome) → SomeBreaks m steps → Bad o steps last
  later_break o [] last h = absurd h
  later_break o (step ∷ steps) last (inl e) = inr (now step.outcome steps last (inr e))
  later_break o (step ∷ steps) last (inr h) = inr (later_break step.outcome steps last h)

  at_last : (o : Outcome) (steps : List Step) (last : Option Outcome) → last ≡ Some aborted → Bad o steps last
  at_last o [] last e = inr e
  at_last o (step ∷ steps) last e = inr (at_last step.outcome steps last e)

  aborts_bad : (run : Run) → Aborts run → Bad run.first run.steps run.last
  aborts_bad run (inl e) = now run.first run.steps run.last (inl e)
  aborts_bad run (inr (inl h)) = later_abort run.first run.steps run.last h
  aborts_bad run (inr (inr e)) = at_last run.first run.steps run.last e

  breaks_bad : (run : Run) → Breaks m run → Bad run.first run.steps run.last
  breaks_bad run (inl e) = now run.first run.steps run.last (inr e)
  breaks_bad run (inr h) = later_break run.first run.steps run.last h

pub bounded_is_sound : BlockHasPathOutcomes → PathsKeepKind → BoundedIsSound
bounded_is_sound blocks kinds m n safe = record {
  never_aborts = λ run is few aborts. none blocks kinds m run n is few (aborts_bad blocks kinds m run aborts) safe;
  never_breaks = λ run is few breaks. none blocks kinds m run n is few (breaks_bad blocks kinds m run breaks) safe;
}
