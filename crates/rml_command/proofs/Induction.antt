-- Where no goal has a counterexample, no run aborts or breaks a conjecture: by induction over the steps of a run.
use Rattle.std.proofs.Common.{◌≡◌, inl, inr, ℕ, zero, suc, ◌+◌, ◌<◌, Bool, true, false, not, ◌&&◌, cond, List, [], ◌∷◌}
use Rattle.std.proofs.Common.{length, map, Option, Some, None, refl, sym, ap, ◌∙◌, subst, arith, zero-add}
use Rattle.std.specs.Prelude.{slice_get}
use Rattle.std.specs.List.{AllByRecursion, flat_map}
use Rattle.std.proofs.lemmas.Bool.{true_from_ne_false}
use Rattle.base.proofs.Lists.{all_front, all_back, all_at, at-below}
use Rattle.fol_sig.specs.Tables.{Tables, reading}
use Rattle.fol_sig.specs.Symbols.{FitsStructure, symbols}
use Rattle.fol_sig.specs.TupleSets.{TablesAreTuples}
use Rattle.fol_formula.specs.Syntax.{FormTree, forms_of}
use Rattle.fol_formula.specs.Truth.{all_true}
use Rattle.rml_command.specs.Trees.{PrimitiveTree, CommandTree}
use Rattle.fol_formula.specs.Sentences.{is_true, satisfies}
use Rattle.rml_command.specs.Outcomes.{Outcome, ended, aborted, HasOutcome, PathHasOutcome, follow_path}
use Rattle.base.specs.Lists.{count_from}
use Rattle.rml_command.specs.Paths.{paths_of}
use Rattle.rml_command.specs.Models.{ModelTree, FitsCommand, FitsModel}
use Rattle.rml_command.specs.Runs.{Step, Run, From, Leads, Closes, IsRun, SomeAborts, Aborts, BreaksAt, SomeBreaks}
use Rattle.rml_command.specs.Runs.{Breaks}
use Rattle.rml_command.specs.Goals.{stage_groups, block_of, paths_of_block, is_for, goals_among, is_allowed}
use Rattle.rml_command.specs.Goals.{FailsGoal, HasNone, Holds}
use Rattle.rml_command.specs.Laws.{InductionIsSound, UpdatesKeepSymbols}
use Rattle.rml_command.specs.declared.goal.Head.{Head}
use Rattle.rml_command.specs.declared.goal.Stage.{Stage}
use Rattle.rml_command.specs.declared.goal.Stage.TheVariants as stage
use Rattle.rml_command.specs.declared.goal.About.{About}
use Rattle.rml_command.specs.declared.goal.About.TheVariants as about
use Rattle.rml_command.specs.declared.goal.Goal.{Goal}
use Rattle.rml_command.proofs.Some.{some_at}
use Rattle.rml_command.proofs.PathLaw.{by_path, path_ends, path_aborts}
use Rattle.rml_command.proofs.Following.{followed}
use Rattle.rml_command.proofs.Structures.{IsLawful, kept, step_lawful}
use Rattle.rml_command.proofs.Values.{falsified}

all_counted : {X : Type 0} (P : X → Type 0) (f : ℕ → X) (from n : ℕ) → AllByRecursion P (map f (count_from from n))
    → (k : ℕ) → k < n → P (f (from + k))
all_counted P f from zero all k lt = absurd (omega arith)
all_counted P f from (suc n) all zero lt = let e : from ≡ from + 0 = omega arith in subst (λ (i : ℕ). P (f i)) e all.0
all_counted P f from (suc n) all (suc k) lt =
    let e : suc from + k ≡ from + suc k = omega arith in
    subst (λ (i : ℕ). P (f i)) e (all_counted P f (suc from) n all.1 k (omega arith))

all_flat : {X : Type 0} (P : X → Type 0) (F : ℕ → List X) (from n : ℕ)
    → AllByRecursion P (flat_map F (count_from from n)) → (k : ℕ) → k < n → AllByRecursion P (F (from + k))
all_flat P F from zero all k lt = absurd (omega arith)
all_flat P F from (suc n) all zero lt = let e : from ≡ from + 0 = omega arith in
    subst (λ (i : ℕ). AllByRecursion P (F i)) e (all_front P (F from) _ all)
all_flat P F from (suc n) all (suc k) lt =
    let e : suc from + k ≡ from + suc k = omega arith in
    subst (λ (i : ℕ). AllByRecursion P (F i)) e (all_flat P F (suc from) n (all_back P (F from) _ all) k (omega arith))

-- a path of the right kind is a goal
all_but_first : (Q : Goal → Type 0) (b : Bool) (g : Goal) (rest : List Goal) → AllByRecursion Q (cond b (g ∷ rest) rest)
    → AllByRecursion Q rest
all_but_first Q true g rest all = all.1
all_but_first Q false g rest all = all

goal_among : (Q : Goal → Type 0) (group : Head) (ps : List (List PrimitiveTree)) (i n j : ℕ) (p : List PrimitiveTree)
    → j ≡ n + i → slice_get ps i ≡ Some p → is_for group.about p ≡ true → AllByRecursion Q (goals_among group n ps)
    → Q (record { stage = group.stage; path = j; about = group.about })
goal_among Q group [] i n j p e at is all = absurd (cc at)
goal_among Q group (x ∷ ps) zero n j p e at is all =
    let same : x ≡ p = cc at in
    let here = subst
    (λ b. AllByRecursion Q
    (cond b (record { stage = group.stage; path = n; about = group.about } ∷ goals_among group (suc n) ps)
    (goals_among group (suc n) ps))) (ap (is_for group.about) same ∙ is) all in
    let number : n ≡ j = omega arith in
    subst (λ (i : ℕ). Q (record { stage = group.stage; path = i; about = group.about })) number here.0
goal_among Q group (x ∷ ps) (suc i) n j p e at is all =
    goal_among Q group ps i (suc n) j p (omega arith) at is
    (all_but_first Q (is_for group.about x) (record { stage = group.stage; path = n; about = group.about })
    (goals_among group (suc n) ps) all)

module _ (tables : TablesAreTuples) (keep : UpdatesKeepSymbols) (m : ModelTree) where
  abbrev the_group : Stage → About → Head
  the_group s a = record { stage = s; about = a }

  -- what an outcome of a block and a refuted group lead to
  no_such_end : (st : Stage) (a : About) (c : CommandTree) (s : Tables) (o : Outcome) (values : List ℕ)
      → block_of m st ≡ Some c → Holds m (the_group st a) → FitsStructure (symbols m.signature) s
      → is_allowed m m.conjectures st s ≡ true → HasOutcome m.axioms c s o
      → ((p : List PrimitiveTree) → PathHasOutcome m.axioms p s o → is_for a p ≡ true)
      → ((f : Option Outcome) → f ≡ Some o → FailsGoal m a values f) → ⊥
  no_such_end st a c s o values block holds fits allowed h kind fails =
      let w = some_at (λ p. PathHasOutcome m.axioms p s o) (paths_of c) (by_path m.axioms c s o h) in
      let g = followed tables m.axioms w.1 s o w.3 in
      let none = goal_among (HasNone m m.conjectures) (the_group st a) (paths_of c) w.0 1 (suc w.0) w.1 (omega arith)
      w.2 (kind w.1 w.3)
      (subst (λ b. AllByRecursion (HasNone m m.conjectures) (goals_among (the_group st a) 1 (paths_of_block b))) block
      holds) in
      none s g.havocs values (record {
        path = w.1;
        is_path = ap (λ b. slice_get (paths_of_block b) w.0) block ∙ w.2;
        structure = fits;
        allowed = allowed;
        count = g.count;
        fails = fails (follow_path m.axioms w.1 g.havocs s) g.ends;
      })

  no_abort : (st : Stage) (c : CommandTree) (s : Tables) → block_of m st ≡ Some c → Holds m (the_group st about.Abort)
      → FitsStructure (symbols m.signature) s → is_allowed m m.conjectures st s ≡ true
      → HasOutcome m.axioms c s aborted → ⊥
  no_abort st c s block holds fits allowed h =
      no_such_end st about.Abort c s aborted [] block holds fits allowed h (λ p e. path_aborts m.axioms p s e)
      (λ f e. (e, refl))

  keeps_conjecture : (st : Stage) (c : CommandTree) (s new : Tables) (k : ℕ) (q : FormTree) → block_of m st ≡ Some c
      → Holds m (the_group st (about.Conjecture k)) → FitsStructure (symbols m.signature) s
      → is_allowed m m.conjectures st s ≡ true → slice_get m.conjectures k ≡ Some q
      → HasOutcome m.axioms c s (ended new) → is_true new q ≡ true
  keeps_conjecture st c s new k q block holds fits allowed at h =
      true_from_ne_false (is_true new q) (λ broken.
      let v = falsified new q [] broken in
      no_such_end st (about.Conjecture k) c s (ended new) v.values block holds fits allowed h
      (λ p e. ap not (path_ends m.axioms p s new e))
      (λ f e. (q, new, at, e, record { in_range = v.in_range; body = v.body })))

  all_hold : (s : Tables) (qs : List FormTree) → ((k : ℕ) (q : FormTree) → slice_get qs k ≡ Some q → is_true s q ≡ true)
      → satisfies s qs ≡ true
  all_hold s [] each = refl
  all_hold s (q ∷ qs) each =
      ap (λ b. b && all_true (reading s) (forms_of qs) []) (each 0 q refl) ∙ all_hold s qs (λ k r at. each (suc k) r at)

  one_holds : (s : Tables) (qs : List FormTree) (k : ℕ) (q : FormTree) → slice_get qs k ≡ Some q → satisfies s qs ≡ true
      → is_true s q ≡ true
  one_holds s [] k q at e = absurd (cc at)
  one_holds s (x ∷ qs) zero q at e = let same : x ≡ q = cc at in
      subst (λ z. is_true s z ≡ true) same (both (is_true s x) _ e).0
    where
      both : (a b : Bool) → (a && b) ≡ true → (a ≡ true) × (b ≡ true)
      both true b e = (refl, e)
      both false b e = absurd (cc e)
  one_holds s (x ∷ qs) (suc k) q at e =
      one_holds s qs k q at (both (is_true s x) (all_true (reading s) (forms_of qs) []) e).1
    where
      both : (a b : Bool) → (a && b) ≡ true → (a ≡ true) × (b ≡ true)
      both true b e = (refl, e)
      both false b e = absurd (cc e)

  -- an end where axioms and conjectures hold
  pub record IsGood (s : Tables) : Type 0 where
    pub lawful : IsLawful m.axioms (symbols m.signature) s
    pub conjectures : satisfies s m.conjectures ≡ true

  -- no group of this stage has a counterexample
  abbrev Clear : Stage → Type 0
  Clear st = AllByRecursion (Holds m) (stage_groups m st)

  clear_at : (st : Stage) → Clear st → (k : ℕ) → k < length m.conjectures → Holds m (the_group st (about.Conjecture k))
  clear_at st all k lt = let P : ℕ → Type 0 = λ i. Holds m (the_group st (about.Conjecture i)) in
      subst P (zero-add k)
      (all_counted (Holds m) (λ k. the_group st (about.Conjecture k)) 0 (length m.conjectures) all.1 k lt)

  -- from what induction allows, a stage leads to a good end
  ends_well : (st : Stage) (c : CommandTree) (s new : Tables) → block_of m st ≡ Some c
      → FitsCommand (symbols m.signature) c → Clear st → IsLawful m.axioms (symbols m.signature) s
      → is_allowed m m.conjectures st s ≡ true → HasOutcome m.axioms c s (ended new) → IsGood new
  ends_well st c s new block fits clear law allowed h = record {
    lawful = kept m.axioms (symbols m.signature) (IsLawful m.axioms (symbols m.signature))
        (step_lawful keep m.axioms (symbols m.signature)) c s new fits law h;
    conjectures =
        all_hold new m.conjectures
        (λ k q at. keeps_conjecture st c s new k q block (clear_at st clear k (at-below m.conjectures k q at))
        law.structure allowed at h);
  }

  allowed_if : (b c : Bool) → b ≡ true → c ≡ true → (b && c) ≡ true
  allowed_if true c e h = h
  allowed_if false c e h = e

  good_allowed : (s : Tables) → IsGood s → (satisfies s m.axioms && satisfies s m.conjectures) ≡ true
  good_allowed s good =
      allowed_if (satisfies s m.axioms) (satisfies s m.conjectures) good.lawful.axioms_hold good.conjectures

  unbroken : (s : Tables) → IsGood s → BreaksAt m (ended s) → ⊥
  unbroken s good h = let e : true ≡ false = sym (one_holds s m.conjectures h.0 h.1 h.2 good.conjectures) ∙ h.3 in cc e

  module _ (fits : FitsModel m) (actions : (a : ℕ) → a < length m.actions → Clear (stage.Action a)) where
    -- what the steps from a good end do
    record GoesWell (steps : List Step) (to : Outcome) : Type 0 where
      end : Tables
      is : to ≡ ended end
      good : IsGood end
      none_aborts : SomeAborts steps → ⊥
      none_breaks : SomeBreaks m steps → ⊥

    step_well : (from : Tables) (good : IsGood from) (step : Step) (steps : List Step) (to : Outcome)
        → ((s : Tables) → IsGood s → Leads m (ended s) steps to → GoesWell steps to)
        → Leads m (ended from) (step ∷ steps) to → (e : Outcome) → step.outcome ≡ e → GoesWell (step ∷ steps) to
    step_well from good step steps to go leads aborted is =
        absurd (no_abort (stage.Action step.action) leads.0 from leads.1
        (actions step.action (at-below m.actions step.action leads.0 leads.1)).0 good.lawful.structure
        (good_allowed from good) (subst (λ (e : Outcome). From m leads.0 (ended from) e) is leads.2))
    step_well from good step steps to go leads (ended s) is =
        let out = subst (λ (e : Outcome). From m leads.0 (ended from) e) is leads.2 in
        let well = ends_well (stage.Action step.action) leads.0 from s leads.1
        (all_at (FitsCommand (symbols m.signature)) m.actions step.action leads.0 leads.1 fits.blocks.actions)
        (actions step.action (at-below m.actions step.action leads.0 leads.1)) good.lawful (good_allowed from good)
        out in
        let rest = go s well (subst (λ (e : Outcome). Leads m e steps to) is leads.3) in
        record {
          end = rest.end;
          is = rest.is;
          good = rest.good;
          none_aborts =
              elim [
                | inl here ↦ (let e : ended s ≡ aborted = sym is ∙ here in cc e)
                | inr later ↦ rest.none_aborts later
              ];
          none_breaks =
              elim [
                | inl here ↦ unbroken s well (subst (λ (e : Outcome). BreaksAt m e) is here)
                | inr later ↦
                    rest.none_breaks later
              ];
        }

    goes_well : (from : Tables) (good : IsGood from) (steps : List Step) (to : Outcome) → Leads m (ended from) steps to
        → GoesWell steps to
    goes_well from good [] to leads =
        record { end = from; is = leads; good = good; none_aborts = λ x. x; none_breaks = λ x. x }
    goes_well from good (step ∷ steps) to leads =
        step_well from good step steps to (λ s well onward. goes_well s well steps to onward) leads step.outcome refl

    pub record RunsWell (run : Run) : Type 0 where
      pub none_aborts : Aborts run → ⊥
      pub none_breaks : Breaks m run → ⊥

    closes_well : Holds m (the_group stage.Final about.Abort) → (end : Tables) (to : Outcome) (last : Option Outcome)
        → IsGood end → to ≡ ended end → Closes m to last → last ≡ Some aborted → ⊥
    closes_well holds end to None good is closes e = cc e
    closes_well holds end to (Some o) good is closes e =
        let o-is : o ≡ aborted = cc e in
        no_abort stage.Final m.last end refl holds good.lawful.structure (good_allowed end good)
        (subst (λ (x : Outcome). From m m.last x aborted) is
        (subst (λ (x : Outcome). From m m.last to x) o-is closes))

    runs_well : Clear stage.Init → Holds m (the_group stage.Final about.Abort) → (run : Run) → IsRun m run
        → RunsWell run
    runs_well init final run ok = begin run.first refl
      where
        begin : (e : Outcome) → run.first ≡ e → RunsWell run
        begin aborted is =
            absurd (no_abort stage.Init m.init run.start refl init.0 ok.structure ok.lawful
            (subst (λ (e : Outcome). HasOutcome m.axioms m.init run.start e) is ok.init))
        begin (ended s) is =
            let out = subst (λ (e : Outcome). HasOutcome m.axioms m.init run.start e) is ok.init in
            let well = ends_well stage.Init m.init run.start s refl
            fits.blocks.init init
            (record { structure = ok.structure; axioms_hold = ok.lawful }) ok.lawful out in
            let rest = goes_well s well run.steps ok.to
            (subst (λ (e : Outcome). Leads m e run.steps ok.to) is ok.leads) in
            record {
              none_aborts = elim [
                | inl first ↦ (let e : ended s ≡ aborted = sym is ∙ first in cc e)
                | inr (inl steps) ↦ rest.none_aborts steps
                | inr (inr last) ↦ closes_well final rest.end ok.to run.last rest.good rest.is ok.closes last
              ];
              none_breaks =
                  elim [
                    | inl first ↦ unbroken s well (subst (λ (e : Outcome). BreaksAt m e) is first)
                    | inr steps ↦
                        rest.none_breaks steps
                  ];
            }

pub induction : TablesAreTuples → UpdatesKeepSymbols → InductionIsSound
induction tables keep m fits all =
    let back = all_back (Holds m) (stage_groups m stage.Init) _ all in
    let init = all_front (Holds m) (stage_groups m stage.Init) _ all in
    let middle = flat_map (λ a. stage_groups m (stage.Action a)) (count_from 0 (length m.actions)) in
    let final = all_back (Holds m) middle _ back in
    let front = all_front (Holds m) middle _ back in
    let actions : (a : ℕ) → a < length m.actions → AllByRecursion (Holds m) (stage_groups m (stage.Action a)) =
    λ a lt. (let P : ℕ → Type 0 = λ i. AllByRecursion (Holds m) (stage_groups m (stage.Action i)) in
    subst P (zero-add a)
    (all_flat (Holds m) (λ a. stage_groups m (stage.Action a)) 0 (length m.actions) front a lt)) in
    record {
      never_aborts = λ run ok. (runs_well tables keep m fits actions init final.0 run ok).none_aborts;
      never_breaks = λ run ok. (runs_well tables keep m fits actions init final.0 run ok).none_breaks;
    }
