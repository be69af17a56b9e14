-- A confirmed report shows counterexamples.
use Rattle.std.proofs.Common.{◌≡◌, ℕ, zero, suc, ◌+◌, ◌<◌, Bool, true, false, List, [], ◌∷◌, ◌++◌, Option, Some}
use Rattle.std.proofs.Common.{None, length, map, refl, sym, ap, ◌∙◌, subst, cond, arith}
use Rattle.std.specs.Prelude.{◌==◌, slice_get, reverse}
use Rattle.std.specs.List.{AllByRecursion, flat_map, list_all}
use Rattle.std.proofs.lemmas.Bool.{and_parts, and_from, not-true, eqb-true}
use Rattle.std.specs.Option.{option_or}
use Rattle.std.proofs.lemmas.List.Sums.{AllPass-from_list_all}
use Rattle.fol_sig.specs.Tables.{Tables, InRange, tuple_count, place_of, relation_at, function_at, rel_at, fun_at}
use Rattle.fol_sig.specs.Tables.{reading}
use Rattle.fol_sig.specs.Tuples.{tuples, TuplesAreNumbered}
use Rattle.fol_formula.specs.Syntax.{FormTree}
use Rattle.fol_formula.specs.Truth.{truth, same_truth}
use Rattle.rml_command.specs.Trees.{PrimitiveTree, assume, set_rel, set_fun, havoc, havoc_rel, abort}
use Rattle.base.specs.Lists.{count_from}
use Rattle.fol_formula.specs.Sentences.{satisfies}
use Rattle.rml_command.specs.Outcomes.{Outcome, ended, aborted, follow_path}
use Rattle.rml_command.specs.Paths.{has_abort, havoc_count}
use Rattle.rml_command.specs.Models.{ModelTree}
use Rattle.rml_command.specs.Goals.{FailsGoal, goal_path, is_allowed, is_for}
use Rattle.rml_command.specs.Goals.{leading_sorts, body_of}
use Rattle.rml_command.specs.Laws.{PathHasFollowedOutcomes, PathsKeepKind}
use Rattle.rml_command.specs.declared.goal.Goal.{Goal}
use Rattle.rml_command.specs.declared.havoc.Havoc.{Havoc}
use Rattle.rml_command.specs.declared.havoc.Havoc.TheVariants.{Element, Tuples}
use Rattle.rml_command.specs.declared.goal.Stage.{Stage}
use Rattle.rml_command.specs.declared.goal.Stage.TheVariants as stage
use Rattle.rml_command.specs.declared.goal.About.{About}
use Rattle.rml_command.specs.declared.goal.About.TheVariants as about
use Rattle.rml_exec.specs.declared.trace.Counterexample.{Counterexample}
use Rattle.rml_report.specs.ReportText.{outcome_of, followed}
use Rattle.rml_report.specs.declared.report.Verdict.{Verdict}
use Rattle.rml_report.specs.declared.report.Verdict.TheVariants as verdict
use Rattle.printed_report.specs.Executions.{AreAsked, AreAskedAlong, IsExecution, HasEnd}
use Rattle.printed_report.specs.declared.printed.Printed.{Printed}
use Rattle.printed_report.specs.declared.printed.PrintedGroup.{PrintedGroup}
use Rattle.printed_report.specs.declared.printed.PrintedAnswer.{PrintedAnswer}
use Rattle.printed_report.specs.declared.printed.PrintedAnswer.TheVariants as answer
use Rattle.report_replay.specs.Demands.{Demand, is_kept_before, goes_through, same_relation, same_function}
use Rattle.report_replay.specs.Demands.{relation_demands}
use Rattle.report_replay.specs.Demands.{function_demands, table_demands, is_broken, end_demands, outcome_demands}
use Rattle.report_replay.specs.Demands.{execution_demands, answer_demands, group_demands, before_line, havoc_line}
use Rattle.report_replay.specs.Demands.{end_line, table_count}
use Rattle.report_replay.specs.Judgements.{first_unmet, demands, judged_by, verdict_demand, same_verdict}
use Rattle.report_replay.specs.Judgements.{verdict_of, executions}
use Rattle.report_replay.specs.Judging.{CanFollow, CanReplay}
use Rattle.report_replay.specs.Laws.{HasSameTables, EndsAs, IsShown, Shows, ConfirmedIsRight}
use Rattle.report_replay.specs.declared.judged.Fault.{Fault}
use Rattle.report_replay.specs.declared.judged.Judged.TheVariants.{Confirmed}
use Rattle.report_replay.specs.declared.denial.DenialCode.TheVariants as denial
use Rattle.report_replay.proofs.Unmet.{unmet_append}
use Rattle.report_replay.proofs.Sizes.{keeps_sizes}
use Rattle.report_replay.proofs.Ready.{can_judge, has_after}

-- no demand of two lists is unmet
none_first : (o p : Option Fault) → option_or o p ≡ None → o ≡ None
none_first None p e = refl
none_first (Some f) p e = absurd (cc e)

none_second : (o p : Option Fault) → option_or o p ≡ None → p ≡ None
none_second None p e = e
none_second (Some f) p e = absurd (cc e)

front_met : (xs ys : List Demand) → first_unmet (xs ++ ys) ≡ None → first_unmet xs ≡ None
front_met xs ys e = none_first (first_unmet xs) (first_unmet ys) (sym (unmet_append xs ys) ∙ e)

back_met : (xs ys : List Demand) → first_unmet (xs ++ ys) ≡ None → first_unmet ys ≡ None
back_met xs ys e = none_second (first_unmet xs) (first_unmet ys) (sym (unmet_append xs ys) ∙ e)

head_met : (d : Demand) (ds : List Demand) → first_unmet (d ∷ ds) ≡ None → d.met ≡ true
head_met d ds e = by d.met e
  where
    by : (t : Bool) → cond t (first_unmet ds) (Some (record { line = d.line; code = d.code })) ≡ None → t ≡ true
    by true f = refl
    by false f = absurd (cc f)

tail_met : (d : Demand) (ds : List Demand) → first_unmet (d ∷ ds) ≡ None → first_unmet ds ≡ None
tail_met d ds e = by d.met e
  where
    by : (t : Bool) → cond t (first_unmet ds) (Some (record { line = d.line; code = d.code })) ≡ None
        → first_unmet ds ≡ None
    by true f = f
    by false f = absurd (cc f)

-- a demand for each of n numbers from k on
each_met : (D : ℕ → Demand) (k n i : ℕ) → first_unmet (map D (count_from k n)) ≡ None → i < n → (D (k + i)).met ≡ true
each_met D k zero i e lt = absurd (omega arith)
each_met D k (suc n) zero e lt =
    let z : k + 0 ≡ k = omega arith in
    subst (λ j. (D j).met ≡ true) (sym z) (head_met (D k) (map D (count_from (suc k) n)) e)
each_met D k (suc n) (suc i) e lt =
    let z : k + suc i ≡ suc k + i = omega arith in
    subst (λ j. (D j).met ≡ true) (sym z)
    (each_met D (suc k) n i (tail_met (D k) (map D (count_from (suc k) n)) e) (omega arith))

truths_same : (a b : Bool) → same_truth a b ≡ true → a ≡ b
truths_same true b e = sym e
truths_same false b e = sym (not-true b e)

from_zero : (n : ℕ) → 0 + n ≡ n
from_zero n = omega arith

-- the same values
module _ (numbered : TuplesAreNumbered) (t s : Tables) where
  -- what passes at all tuples passes at each
  at_each : (sizes ks : List ℕ) (p : List ℕ → Bool) → list_all p (tuples sizes ks) ≡ true → (xs : List ℕ)
      → InRange sizes ks xs → p xs ≡ true
  at_each sizes ks p all xs range =
      let are = numbered sizes ks in
      let n : ℕ = place_of sizes ks xs in
      let within : n < tuple_count sizes ks = are.place_within xs range in
      subst (λ (ys : List ℕ). p ys ≡ true) (are.listed n within ∙ are.tuple_of_place xs range)
      (AllPass-from_list_all p (tuples sizes ks) all n [] (subst (λ m. n < m) (sym are.count) within))

  relation_same : (r : ℕ) → same_relation t s r ≡ true → (xs : List ℕ) → InRange t.sizes (relation_at t r).sorts xs
      → rel_at t r xs ≡ rel_at s r xs
  relation_same r e xs range =
      truths_same (rel_at t r xs) (rel_at s r xs)
      (at_each t.sizes (relation_at t r).sorts (λ ys. same_truth (rel_at t r ys) (rel_at s r ys)) e xs range)

  function_same : (f : ℕ) → same_function t s f ≡ true → (xs : List ℕ) → InRange t.sizes (function_at t f).sorts xs
      → fun_at t f xs ≡ fun_at s f xs
  function_same f e xs range =
      eqb-true (fun_at t f xs) (fun_at s f xs)
      (at_each t.sizes (function_at t f).sorts (λ ys. fun_at t f ys == fun_at s f ys) e xs range)

  tables_same : (m : ModelTree) (line : ℕ) → first_unmet (table_demands m t s line) ≡ None → HasSameTables m t s
  tables_same m line e =
      let rs : List Demand = relation_demands t s line 0 (length m.signature.relations) in
      let fs : List Demand = function_demands t s (line + length m.signature.relations) 0
      (length m.signature.functions) in
      record {
        relations = λ r lt xs range. relation_same r
            (subst (λ j. same_relation t s j ≡ true) (from_zero r)
            (each_met (λ r. record { line = line + r; code = denial.WrongEnd; met = same_relation t s r }) 0
            (length m.signature.relations) r
            (front_met (relation_demands t s line 0 (length m.signature.relations))
            (function_demands t s (line + length m.signature.relations) 0 (length m.signature.functions)) e) lt)) xs
            range;
        functions = λ f lt xs range. function_same f
            (subst (λ j. same_function t s j ≡ true) (from_zero f)
            (each_met (λ f. record {
              line = (line + length m.signature.relations) + f;
              code = denial.WrongEnd;
              met = same_function t
                  s f;
            }) 0
            (length m.signature.functions) f
            (back_met (relation_demands t s line 0 (length m.signature.relations))
            (function_demands t s (line + length m.signature.relations) 0 (length m.signature.functions)) e) lt)) xs
            range;
      }

-- what a path asks for is an entry for each havoc
asked_count : (s : Tables) (path : List PrimitiveTree) (hs : List Havoc) → AreAsked s path hs
    → length hs ≡ havoc_count path
asked_count s [] hs is = ap (length {A = Havoc}) is
asked_count s (assume p ∷ qs) hs is = asked_count s qs hs is.1
asked_count s (set_rel r by ∷ qs) hs is = asked_count s qs hs is.1
asked_count s (set_fun f by ∷ qs) hs is = asked_count s qs hs is.1
asked_count s (havoc v ∷ qs) [] is = absurd is.0
asked_count s (havoc v ∷ qs) (Element x ∷ hs) is = ap suc (asked_count s qs hs is.1)
asked_count s (havoc v ∷ qs) (Tuples xss ∷ hs) is = absurd is.0
asked_count s (havoc_rel r ∷ qs) [] is = absurd is.0
asked_count s (havoc_rel r ∷ qs) (Element x ∷ hs) is = absurd is.0
asked_count s (havoc_rel r ∷ qs) (Tuples xss ∷ hs) is = ap suc (asked_count s qs hs is.1)
asked_count s (abort ∷ qs) hs is = asked_count s qs hs is.1

-- a path of this kind, followed with an entry for each havoc
module _ (by_paths : PathHasFollowedOutcomes) (kinds : PathsKeepKind) (ax : List FormTree) (path : List PrimitiveTree)
    (hs : List Havoc) (s : Tables) (count : length hs ≡ havoc_count path) where
  none_ends : (t : Tables) → follow_path ax path hs s ≡ Some (ended t) → has_abort path ≡ false
  none_ends t e = kinds.ends ax path s t ((by_paths ax path s (ended t)).1
      (record { havocs = hs; count = count; ends = e }))

  one_aborts : follow_path ax path hs s ≡ Some aborted → has_abort path ≡ true
  one_aborts e = kinds.aborts ax path s ((by_paths ax path s aborted).1
      (record { havocs = hs; count = count; ends = e }))

allowed : (m : ModelTree) (x : Stage) (s : Tables) → satisfies s m.axioms ≡ true → is_kept_before m x s ≡ true
    → is_allowed m m.conjectures x s ≡ true
allowed m stage.Init s e f = e
allowed m (stage.Action a) s e f = and_from (satisfies s m.axioms) (satisfies s m.conjectures) e f
allowed m stage.Final s e f = and_from (satisfies s m.axioms) (satisfies s m.conjectures) e f

not_both : (b : Bool) → b ≡ true → b ≡ false → ⊥
not_both b e f = cc (e, f)

abbrev EndsOption : ModelTree → Option Tables → Option Outcome → Type 0
EndsOption m None o = o ≡ Some aborted
EndsOption m (Some t) o = (s : Tables) × (o ≡ Some (ended s)) × HasSameTables m t s

record Ends (m : ModelTree) (a : About) (values : List ℕ) (after : Option Tables) (o : Option Outcome) : Type 0 where
  fails : FailsGoal m a values o
  as_printed : EndsOption m after o

broken : (c : Option FormTree) (d : FormTree) (s : Tables) (values : List ℕ) → c ≡ Some d → is_broken c s values ≡ true
    → truth (reading s) (body_of d) (reverse values) ≡ false
broken c d s values e h =
    not-true (truth (reading s) (body_of d) (reverse values)) (sym (ap (λ o. is_broken o s values) e) ∙ h)

-- the end is as the goal forbids and as is printed
ends_so : (numbered : TuplesAreNumbered) (m : ModelTree) (g : PrintedGroup) (shown : Counterexample) (a : About)
    (after : Option Tables) (o : Option Outcome) (path : List PrimitiveTree)
    → is_for a path ≡ true → ((t : Tables) → o ≡ Some (ended t) → has_abort path ≡ false)
    → (o ≡ Some aborted → has_abort path ≡ true) → ((t : Tables) → o ≡ Some (ended t) → t.sizes ≡ shown.structure.sizes)
    → HasEnd m shown.structure a shown.values after → goes_through o ≡ true
    → first_unmet (end_demands m g a shown after o) ≡ None → Ends m a shown.values after o
ends_so numbered m g shown a after None path kind ended_is aborted_is sizes has through met = absurd (cc through)
ends_so numbered m g shown about.Abort after (Some (ended s)) path kind ended_is aborted_is sizes has through met =
    absurd (not_both (has_abort path) kind (ended_is s refl))
ends_so numbered m g shown about.Abort None (Some aborted) path kind ended_is aborted_is sizes has through met =
    record { fails = (refl, has.0); as_printed = refl }
ends_so numbered m g shown about.Abort (Some t) (Some aborted) path kind ended_is aborted_is sizes has through met =
    absurd (cc has.1)
ends_so numbered m g shown (about.Conjecture k) None o path kind ended_is aborted_is sizes has through met =
    absurd (cc has.3)
ends_so numbered m g shown (about.Conjecture k) (Some t) (Some aborted) path kind ended_is aborted_is sizes has
    through met =
    absurd (not_both (has_abort path) (aborted_is refl) (not-true (has_abort path) kind))
ends_so numbered m g shown (about.Conjecture k) (Some t) (Some (ended s)) path kind ended_is aborted_is sizes has
    through met =
    let h = has_after m shown.structure t k shown.values has in
    let value : Demand = record {
      line = end_line m g + table_count m;
      code = denial.NotBroken;
      met = is_broken (slice_get m.conjectures k) s shown.values;
    } in
    let tables = front_met (table_demands m t s (end_line m g))
    (record {
      line = end_line m g + table_count m;
      code = denial.NotBroken;
      met = is_broken (slice_get m.conjectures k) s
          shown.values;
    }
    ∷ []) met in
    let last = back_met (table_demands m t s (end_line m g))
    (record {
      line = end_line m g + table_count m;
      code = denial.NotBroken;
      met = is_broken (slice_get m.conjectures k) s
          shown.values;
    }
    ∷ []) met in
    let is = head_met
    (record {
      line = end_line m g + table_count m;
      code = denial.NotBroken;
      met = is_broken (slice_get m.conjectures k) s
          shown.values;
    })
    [] last in
    record {
      fails = (
        h.conjecture,
        s,
        h.is,
        refl,
        record {
          in_range = subst (λ (z : List ℕ). InRange z (leading_sorts h.conjecture) shown.values) (sym (sizes s refl))
              h.in_range;
          body = broken (slice_get m.conjectures k) h.conjecture s shown.values h.is is;
        },
      );
      as_printed = (s, refl, tables_same numbered t s m (end_line m g) tables);
    }

-- what is asked of an execution is so
record AreMet (m : ModelTree) (g : PrintedGroup) (shown : Counterexample) (after : Option Tables) : Type 0 where
  lawful : satisfies shown.structure m.axioms ≡ true
  kept : is_kept_before m g.stage shown.structure ≡ true
  through : goes_through (outcome_of m shown) ≡ true
  last : first_unmet (end_demands m g g.about shown after (outcome_of m shown)) ≡ None

are_met : (m : ModelTree) (g : PrintedGroup) (shown : Counterexample) (after : Option Tables)
    → first_unmet (execution_demands m g shown after) ≡ None → AreMet m g shown after
are_met m g shown after met =
    let o : Option Outcome = outcome_of m shown in
    let first = head_met (record
    { line = before_line g; code = denial.AxiomIsFalse; met = satisfies shown.structure m.axioms })
    (record { line = before_line g; code = denial.ConjectureIsFalse; met = is_kept_before m g.stage shown.structure }
    ∷ outcome_demands m g shown after (outcome_of m shown)) met in
    let more = tail_met (record
    { line = before_line g; code = denial.AxiomIsFalse; met = satisfies shown.structure m.axioms })
    (record { line = before_line g; code = denial.ConjectureIsFalse; met = is_kept_before m g.stage shown.structure }
    ∷ outcome_demands m g shown after (outcome_of m shown)) met in
    let second = head_met
    (record {
      line = before_line g;
      code = denial.ConjectureIsFalse;
      met = is_kept_before m g.stage
          shown.structure;
    })
    (outcome_demands m g shown after (outcome_of m shown)) more in
    let rest = tail_met (record
    { line = before_line g; code = denial.ConjectureIsFalse; met = is_kept_before m g.stage shown.structure })
    (outcome_demands m g shown after (outcome_of m shown)) more in
    record {
      lawful = first;
      kept = second;
      through = head_met (record
          { line = havoc_line m g; code = denial.Blocked; met = goes_through (outcome_of m shown) })
          (end_demands m g g.about shown after (outcome_of m shown)) rest;
      last = tail_met (record { line = havoc_line m g; code = denial.Blocked; met = goes_through (outcome_of m shown) })
          (end_demands m g g.about shown after (outcome_of m shown)) rest;
    }

module _ (numbered : TuplesAreNumbered) (by_paths : PathHasFollowedOutcomes) (kinds : PathsKeepKind) (m : ModelTree)
  where
    shows_execution : (g : PrintedGroup) (paths : ℕ) (shown : Counterexample) (after : Option Tables)
        → IsExecution m (record { stage = g.stage; about = g.about }) paths shown after
        → first_unmet (execution_demands m g shown after) ≡ None → IsShown m shown after
    shows_execution g paths shown after exec met =
        let path : List PrimitiveTree = exec.is_goal.path in
        let is_path : goal_path m shown.goal ≡ Some exec.is_goal.path = exec.is_goal.is_path in
        let stage_is : shown.goal.stage ≡ g.stage = ap (λ (x : Goal). x.stage) exec.goal in
        let about_is : shown.goal.about ≡ g.about = ap (λ (x : Goal). x.about) exec.goal in
        let out : outcome_of m shown ≡ follow_path m.axioms exec.is_goal.path shown.trace.havoc shown.structure =
        ap (λ o. followed m o shown) is_path in
        let count : length shown.trace.havoc ≡ havoc_count exec.is_goal.path =
        asked_count shown.structure exec.is_goal.path shown.trace.havoc
        (subst (λ o. AreAskedAlong shown.structure o shown.trace.havoc) is_path exec.trace) in
        let so = are_met m g shown after met in
        let ends = ends_so numbered m g shown g.about after (outcome_of m shown) exec.is_goal.path
        (subst (λ a. is_for a exec.is_goal.path ≡ true) about_is exec.is_goal.kind)
        (λ t e. none_ends by_paths kinds m.axioms exec.is_goal.path shown.trace.havoc shown.structure count t
        (sym out ∙ e))
        (λ e. one_aborts by_paths kinds m.axioms exec.is_goal.path shown.trace.havoc shown.structure count (sym out
        ∙ e))
        (λ t e. keeps_sizes m.axioms exec.is_goal.path shown.trace.havoc shown.structure t (sym out ∙ e))
        exec.end so.through so.last in
        record {
          refutes = record {
            path = exec.is_goal.path;
            is_path = is_path;
            structure = exec.structure;
            allowed = subst (λ x. is_allowed m m.conjectures x shown.structure ≡ true) (sym stage_is)
                (allowed m g.stage shown.structure so.lawful so.kept);
            count = count;
            fails = subst (λ a. FailsGoal m a shown.values
                (follow_path m.axioms exec.is_goal.path shown.trace.havoc shown.structure)) (sym about_is)
                (subst (FailsGoal m g.about shown.values) out ends.fails);
          };
          ends = ends_printed after ends.as_printed;
        }
      where
        ends_printed : (a : Option Tables) → EndsOption m a (outcome_of m shown) → EndsAs m shown a
        ends_printed None e = e
        ends_printed (Some t) e = e

    shows_answer : (g : PrintedGroup) (a : PrintedAnswer) → CanFollow m g a → first_unmet (answer_demands m g a) ≡ None
        → Shows m a
    shows_answer g answer.Holds can met = tt
    shows_answer g (answer.Fails paths shown after) can met = shows_execution g paths shown after can met
    shows_answer g answer.Undecided can met = tt

    shows_groups : (gs : List PrintedGroup) → AllByRecursion (CanReplay m) gs
        → first_unmet (flat_map (group_demands m) gs) ≡ None → AllByRecursion (λ g. Shows m g.answer) gs
    shows_groups [] can met = tt
    shows_groups (g ∷ gs) can met = (
      shows_answer g g.answer can.0.answer (front_met (group_demands m g) (flat_map (group_demands m) gs) met),
      shows_groups gs can.1 (back_met (group_demands m g) (flat_map (group_demands m) gs) met),
    )

same_verdicts : (v w : Verdict) → same_verdict v w ≡ true → v ≡ w
same_verdicts verdict.Inductive verdict.Inductive e = refl
same_verdicts verdict.NotInductive verdict.NotInductive e = refl
same_verdicts verdict.Undecided verdict.Undecided e = refl
same_verdicts verdict.Inductive verdict.NotInductive e = absurd (cc e)
same_verdicts verdict.Inductive verdict.Undecided e = absurd (cc e)
same_verdicts verdict.NotInductive verdict.Inductive e = absurd (cc e)
same_verdicts verdict.NotInductive verdict.Undecided e = absurd (cc e)
same_verdicts verdict.Undecided verdict.Inductive e = absurd (cc e)
same_verdicts verdict.Undecided verdict.NotInductive e = absurd (cc e)

none_unmet : (p : Printed) (o : Option Fault) (n : ℕ) → judged_by p o ≡ Confirmed n → o ≡ None
none_unmet p None n e = refl
none_unmet p (Some f) n e = absurd (cc e)

so_many : (p : Printed) (o : Option Fault) (n : ℕ) → judged_by p o ≡ Confirmed n → n ≡ executions p.groups
so_many p None n e = cc e
so_many p (Some f) n e = absurd (cc e)

pub confirmed_is_right : TuplesAreNumbered → PathHasFollowedOutcomes → PathsKeepKind → ConfirmedIsRight
confirmed_is_right numbered by_paths kinds m p n read e =
    let met : first_unmet (demands m p) ≡ None = none_unmet p (first_unmet (demands m p)) n e in
    record {
      shows = shows_groups numbered by_paths kinds m p.groups (can_judge m p read)
          (front_met (flat_map (group_demands m) p.groups) (verdict_demand m p ∷ []) met);
      verdict = same_verdicts p.verdict (verdict_of p.groups)
          (head_met (verdict_demand m p) [] (back_met (flat_map (group_demands m) p.groups) (verdict_demand m p ∷ [])
          met));
      count = so_many p (first_unmet (demands m p)) n e;
    }
