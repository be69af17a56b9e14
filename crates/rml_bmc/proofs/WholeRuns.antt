-- A run that is shown in full is a run of the model.
use Rattle.std.proofs.Common.{◌≡◌, inl, inr, ℕ, zero, suc, Bool, true, false, List, [], ◌∷◌, Option, Some, None, map}
use Rattle.std.proofs.Common.{refl, sym, ap, ◌∙◌, subst}
use Rattle.std.specs.Prelude.{MatchBool, MatchOption, nat_lt, slice_get}
use Rattle.std.specs.List.{AllByRecursion}
use Rattle.fol_sig.specs.Tables.{Tables}
use Rattle.rml_command.specs.Trees.{PrimitiveTree, CommandTree}
use Rattle.base.specs.Lists.{SomeOf, numbered}
use Rattle.rml_command.specs.Outcomes.{Outcome, ended, HasOutcome, PathHasOutcome}
use Rattle.rml_command.specs.Paths.{paths_of}
use Rattle.rml_command.specs.Models.{ModelTree}
use Rattle.rml_command.specs.Goals.{block_of, paths_of_block, FailsGoal}
use Rattle.rml_command.specs.Runs as runs
use Rattle.rml_command.specs.Runs.{Leads, Closes, IsRun}
use Rattle.rml_command.specs.Laws.{BlockHasPathOutcomes, PathHasFollowedOutcomes, FalsehoodHasValues}
use Rattle.rml_command.specs.declared.goal.Stage.{Stage}
use Rattle.rml_command.specs.declared.goal.Stage.TheVariants as stage
use Rattle.rml_command.specs.declared.goal.About.{About}
use Rattle.rml_command.specs.declared.goal.About.TheVariants as about
use Rattle.limits.specs.Ceilings.{Ceilings}
use Rattle.lean_decide.specs.declared.settling.Counted.{Counted}
use Rattle.walks.specs.declared.leg.Walk.{Walk}
use Rattle.walks.specs.Walks.{goals_of_length, count_of}
use Rattle.walks.specs.Runs.{IsForbidden}
use Rattle.walks.specs.Laws.{IsInit, IsAction, AreLater, AreInOrder, IsWalk, GoalsAreWalks}
use Rattle.rml_bmc.specs.Shown.{outcome_of, IsPart, AreParts, last_from, leg_of, IsShownRun, IsRunAlong, step_before}
use Rattle.rml_bmc.specs.Shown.{steps_of}
use Rattle.rml_bmc.specs.Shown.{final_or, final_of, run_with, BreaksOff}
use Rattle.rml_bmc.specs.Lengths.{AreDecisions, first_run, first_open, open_or_safe, broken_or, IsDecidedLength}
use Rattle.rml_bmc.specs.Lengths.{IsLength}
use Rattle.rml_bmc.specs.Laws.{BrokenIsBroken, BrokenIsShown}
use Rattle.rml_bmc.specs.declared.answer.Part.{Part}
use Rattle.rml_bmc.specs.declared.answer.Run.{Run}
use Rattle.rml_bmc.specs.declared.answer.BoundCause.{BoundCause}
use Rattle.rml_bmc.specs.declared.answer.BoundCause.TheVariants as cause
use Rattle.rml_bmc.specs.declared.answer.Length.TheVariants as answer
use Rattle.rml_bmc.specs.declared.deciding.WalkDecision.{WalkDecision}
use Rattle.rml_bmc.specs.declared.deciding.WalkDecision.TheVariants.{NoRun, Has, Undecided}

some_from : {A : Type 0} (P : A → Type 0) (xs : List A) (k : ℕ) (x : A) → slice_get xs k ≡ Some x → P x → SomeOf P xs
some_from P [] k x e h = absurd (cc e)
some_from P (y ∷ xs) zero x e h = let same : x ≡ y = sym (cc e) in inl (subst P same h)
some_from P (y ∷ xs) (suc k) x e h = inr (some_from P xs k x e h)

module _ (blocks : BlockHasPathOutcomes) (followed : PathHasFollowedOutcomes) (falsehood : FalsehoodHasValues)
    (m : ModelTree) where
  -- the block that a path is of, and its outcome
  record OfBlock (s : Stage) (from : Tables) (o : Outcome) : Type 0 where
    block : CommandTree
    is_block : block_of m s ≡ Some block
    outcome : HasOutcome m.axioms block from o

  of_block : (s : Stage) (b : Option CommandTree) (n : ℕ) (path : List PrimitiveTree) (from : Tables) (o : Outcome)
      → block_of m s ≡ b → numbered (paths_of_block b) n ≡ Some path → PathHasOutcome m.axioms path from o
      → OfBlock s from o
  of_block s None zero path from o is at h = absurd (cc at)
  of_block s None (suc n) path from o is at h = absurd (cc at)
  of_block s (Some block) zero path from o is at h = absurd (cc at)
  of_block s (Some block) (suc n) path from o is at h = record {
    block = block;
    is_block = is;
    outcome = (blocks m.axioms block from o).1
        (some_from (λ p. PathHasOutcome m.axioms p from o) (paths_of block) n path at h);
  }

  part_outcome : (s : Tables) (part : Part) → IsPart m s part → OfBlock part.stage s (outcome_of part.end)
  part_outcome s part is =
      of_block part.stage (block_of m part.stage) part.trace.path is.path s (outcome_of part.end) refl is.is_path
      ((followed m.axioms is.path s (outcome_of part.end)).1
      (record { havocs = part.trace.havoc; count = is.count; ends = is.ends }))

  init_outcome : (s : Stage) (from : Tables) (o : Outcome) → IsInit s → OfBlock s from o
      → HasOutcome m.axioms m.init from o
  init_outcome stage.Init from o is b =
      let same : b.block ≡ m.init = sym (cc b.is_block) in subst (λ c. HasOutcome m.axioms c from o) same b.outcome
  init_outcome (stage.Action a) from o is b = absurd is
  init_outcome stage.Final from o is b = absurd is

  -- what follows behind an end
  record Follows (o : Outcome) (steps : List runs.Step) (last : Option Outcome) : Type 0 where
    to : Outcome
    leads : Leads m o steps to
    closes : Closes m to last

  of_action : (s : Stage) (from : Tables) (o : Outcome) (steps : List runs.Step) (last : Option Outcome) → IsAction s
      → OfBlock s from o → Follows o steps last → Follows (ended from) (step_before s o steps) (final_or s o last)
  of_action stage.Init from o steps last is b rest = absurd is
  of_action (stage.Action a) from o steps last is b rest =
      record { to = rest.to; leads = (b.block, b.is_block, b.outcome, rest.leads); closes = rest.closes }
  of_action stage.Final from o steps last is b rest = absurd is

  of_final : (s : Stage) (from : Tables) (o : Outcome) → s ≡ stage.Final → OfBlock s from o
      → Follows (ended from) (step_before s o []) (final_or s o None)
  of_final s from o is b =
      subst (λ x. Follows (ended from) (step_before x o []) (final_or x o None)) (sym is)
      (record {
        to = ended from;
        leads = refl;
        closes = let same : b.block ≡ m.last = cc (sym b.is_block ∙ ap (block_of m) is) in
            subst (λ c. HasOutcome m.axioms c from o) same b.outcome;
      })

  follows : (e : Option Tables) (parts : List Part) → MatchOption e (parts ≡ []) (λ t. AreParts m t parts)
      → AreLater (map leg_of parts) → Follows (outcome_of e) (steps_of parts) (final_of parts)
  follows e [] are later = record { to = outcome_of e; leads = refl; closes = tt }
  follows None (part ∷ parts) are later = absurd (cc are)
  follows (Some t) (part ∷ parts) are (inl later) =
      of_action part.stage t (outcome_of part.end) (steps_of parts) (final_of parts) later.0
      (part_outcome t part are.0) (follows part.end parts are.1 later.1)
  follows (Some t) (part ∷ []) are (inr last) =
      of_final part.stage t (outcome_of part.end) last.0 (part_outcome t part are.0)
  follows (Some t) (part ∷ next ∷ parts) are (inr last) = absurd (cc last.1)

  whole : (run : Run) (parts : List Part) → run.parts ≡ parts → IsShownRun m run → AreInOrder (map leg_of parts)
      → AreParts m run.start parts → IsRun m (run_with run.start parts)
  whole run [] is shown order are = absurd order
  whole run (part ∷ parts) is shown order are =
      let rest = follows part.end parts are.1 order.1 in
      record {
        structure = shown.structure;
        lawful = shown.lawful;
        init = init_outcome part.stage run.start (outcome_of part.end) order.0 (part_outcome run.start part are.0);
        to = rest.to;
        leads = rest.leads;
        closes = rest.closes;
      }

  forbidden : (a : About) (values : List ℕ) (o : Outcome) → FailsGoal m a values (Some o) → IsForbidden m a o
  forbidden about.Abort values o h = cc h.0
  forbidden (about.Conjecture k) values o h =
      (h.0, h.1, h.2, cc h.3, (falsehood h.1 h.0).1 (values, h.4))

  pub breaks_off : (walk : Walk) (run : Run) → IsWalk m walk → IsRunAlong m walk run → BreaksOff m run
  breaks_off walk run is along = record {
    is_run = whole run run.parts refl along.shown
        (subst AreInOrder (sym along.legs) is.legs.order) along.shown.parts;
    forbidden = forbidden run.about run.values (last_from (ended run.start) run.parts) along.shown.fails;
  }

is_first : (r : Option Run) (c : Option BoundCause) (run : Run)
    → answer.Broken run ≡ broken_or r (open_or_safe c) → r ≡ Some run
is_first None None run e = absurd (cc e)
is_first None (Some c) run e = absurd (cc e)
is_first (Some r) c run e = let same : r ≡ run = sym (cc e) in ap Some same

-- the goal whose run breaks a length, of which P holds as of each goal
record FirstBroken (m : ModelTree) (P : Walk → Type 0) (run : Run) : Type 0 where
  walk : Walk
  holds : P walk
  along : IsRunAlong m walk run

module _ (counted : Counted) (limits : Ceilings) (m : ModelTree) (P : Walk → Type 0) where
  by_decisions : (goals : List Walk) (ds : List WalkDecision) (run : Run) → AreDecisions counted limits m goals ds
      → first_run ds ≡ Some run → AllByRecursion P goals → FirstBroken m P run
  by_decisions [] [] run right e all = absurd (cc e)
  by_decisions [] (d ∷ ds) run right e all = absurd right
  by_decisions (goal ∷ goals) [] run right e all = absurd right
  by_decisions (goal ∷ goals) (NoRun ∷ ds) run right e all = by_decisions goals ds run right.1 e all.1
  by_decisions (goal ∷ goals) (Has r ∷ ds) run right e all =
      let same : r ≡ run = cc e in
      record { walk = goal; holds = all.0; along = subst (IsRunAlong m goal) same right.0.1.along }
  by_decisions (goal ∷ goals) (Undecided c ∷ ds) run right e all = by_decisions goals ds run right.1 e all.1

  by_count : (k : ℕ) (run : Run) (b : Bool) → AllByRecursion P (goals_of_length m k)
      → MatchBool b (answer.Broken run ≡ answer.Undecided (cause.Paths (count_of m k)))
      (IsDecidedLength counted limits m k (answer.Broken run)) → FirstBroken m P run
  by_count k run true all e = absurd (cc e)
  by_count k run false all d =
      by_decisions (goals_of_length m k) d.decisions run d.right
      (is_first (first_run d.decisions) (first_open 0 d.decisions) run d.is) all

  first_broken : (k : ℕ) (run : Run) → AllByRecursion P (goals_of_length m k)
      → IsLength counted limits m k (answer.Broken run) → FirstBroken m P run
  first_broken k run all h = by_count k run (nat_lt 4096 (count_of m k)) all h

pub broken_is_broken : BlockHasPathOutcomes → PathHasFollowedOutcomes → FalsehoodHasValues → GoalsAreWalks
    → BrokenIsBroken
broken_is_broken blocks followed falsehood walks counted limits m k run checked h =
    let first = first_broken counted limits m (IsWalk m) k run (walks m k) h in
    breaks_off blocks followed falsehood m first.walk run first.holds first.along

any_goals : (goals : List Walk) → AllByRecursion (λ goal. Unit {0}) goals
any_goals [] = tt
any_goals (goal ∷ goals) = (tt, any_goals goals)

pub broken_is_shown : BrokenIsShown
broken_is_shown counted limits m k run h =
    (first_broken counted limits m (λ goal. Unit {0}) k run (any_goals (goals_of_length m k)) h).along.shown
