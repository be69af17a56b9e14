-- A report that is right meets each demand, and is confirmed.
use Rattle.std.proofs.Common.{◌≡◌, ℕ, zero, suc, ◌+◌, ◌<◌, Bool, true, false, List, [], ◌∷◌, ◌++◌, Option, Some}
use Rattle.std.proofs.Common.{None, length, map, refl, sym, ap, ◌∙◌, subst, cond, arith}
use Rattle.std.specs.Prelude.{◌==◌, not, slice_get, reverse}
use Rattle.std.specs.List.{AllByRecursion, flat_map, list_all}
use Rattle.std.proofs.lemmas.Bool.{and_parts, and_from, eq-eqb}
use Rattle.std.specs.Option.{option_or}
use Rattle.std.proofs.lemmas.List.{get_or_default}
use Rattle.std.proofs.lemmas.List.Sums.{list_all-from_AllPass}
use Rattle.base.specs.Lists.{count_from}
use Rattle.fol_sig.specs.Tables.{Tables, InRange, tuple_count, relation_at, function_at, rel_at, fun_at, reading}
use Rattle.fol_sig.specs.Tuples.{tuples, tuple_at, TuplesAreNumbered}
use Rattle.fol_formula.specs.Truth.{truth, same_truth}
use Rattle.fol_formula.specs.Sentences.{satisfies}
use Rattle.rml_command.specs.Outcomes.{Outcome, ended, aborted, follow_path}
use Rattle.rml_command.specs.Models.{ModelTree}
use Rattle.rml_command.specs.Goals.{FailsGoal, is_allowed, body_of}
use Rattle.rml_command.specs.declared.goal.Goal.{Goal}
use Rattle.rml_command.specs.declared.goal.Stage.{Stage}
use Rattle.rml_command.specs.declared.goal.Stage.TheVariants as stage
use Rattle.rml_command.specs.declared.goal.About.{About}
use Rattle.rml_command.specs.declared.goal.About.TheVariants as about
use Rattle.rml_exec.specs.declared.trace.Counterexample.{Counterexample}
use Rattle.rml_report.specs.ReportText.{outcome_of, followed}
use Rattle.rml_report.specs.declared.report.Verdict.{Verdict}
use Rattle.rml_report.specs.declared.report.Verdict.TheVariants as verdict
use Rattle.printed_report.specs.Executions.{IsExecution}
use Rattle.printed_report.specs.declared.printed.PrintedGroup.{PrintedGroup}
use Rattle.printed_report.specs.declared.printed.PrintedAnswer.{PrintedAnswer}
use Rattle.printed_report.specs.declared.printed.PrintedAnswer.TheVariants as answer
use Rattle.report_replay.specs.Demands.{Demand, is_kept_before, goes_through, same_relation, same_function}
use Rattle.report_replay.specs.Demands.{relation_demands, function_demands, table_demands, table_count, is_broken}
use Rattle.report_replay.specs.Demands.{end_demands, outcome_demands, execution_demands, answer_demands, group_demands}
use Rattle.report_replay.specs.Demands.{before_line, havoc_line, end_line}
use Rattle.report_replay.specs.Judgements.{first_unmet, demands, judged_by, verdict_demand, same_verdict}
use Rattle.report_replay.specs.Judgements.{verdict_of}
use Rattle.report_replay.specs.Judging.{CanFollow, CanReplay}
use Rattle.report_replay.specs.Laws.{HasSameTables, EndsAs, IsShown, Shows, RightIsConfirmed}
use Rattle.report_replay.specs.declared.judged.Judged.TheVariants.{Confirmed}
use Rattle.report_replay.specs.declared.denial.DenialCode.TheVariants as denial
use Rattle.report_replay.proofs.Unmet.{unmet_append}
use Rattle.report_replay.proofs.Ready.{can_judge}

same_as : (a b : Bool) → a ≡ b → same_truth a b ≡ true
same_as true b e = sym e
same_as false b e = ap not (sym e)

-- lists of demands that are met
both_met : (xs ys : List Demand) → first_unmet xs ≡ None → first_unmet ys ≡ None → first_unmet (xs ++ ys) ≡ None
both_met xs ys e f = unmet_append xs ys ∙ ap (λ o. option_or o (first_unmet ys)) e ∙ f

first_met : (d : Demand) (ds : List Demand) → d.met ≡ true → first_unmet ds ≡ None → first_unmet (d ∷ ds) ≡ None
first_met d ds e f =
    ap (λ t. cond t (first_unmet ds) (Some (record { line = d.line; code = d.code }))) e ∙ f

each_below : (D : ℕ → Demand) (k n : ℕ) → ((i : ℕ) → i < k + n → (D i).met ≡ true)
    → first_unmet (map D (count_from k n)) ≡ None
each_below D k zero h = refl
each_below D k (suc n) h =
    first_met (D k) (map D (count_from (suc k) n)) (h k (omega arith))
    (each_below D (suc k) n (λ i lt. h i (omega (arith, lt))))

-- the same tables
module _ (numbered : TuplesAreNumbered) (t s : Tables) where
  -- what passes at each tuple passes at all
  at_all : (sizes ks : List ℕ) (p : List ℕ → Bool) → ((xs : List ℕ) → InRange sizes ks xs → p xs ≡ true)
      → list_all p (tuples sizes ks) ≡ true
  at_all sizes ks p each =
      let are = numbered sizes ks in
      list_all-from_AllPass p (tuples sizes ks) (λ n d lt.
      let low : n < tuple_count sizes ks = subst (λ m. n < m) are.count lt in
      subst (λ (ys : List ℕ). p ys ≡ true) (sym (get_or_default (tuples sizes ks) n d [] lt ∙ are.listed n low))
      (each (tuple_at sizes ks n) (are.tuple_within n low)))

  relation_is_same : (r : ℕ)
      → ((xs : List ℕ) → InRange t.sizes (relation_at t r).sorts xs → rel_at t r xs ≡ rel_at s r xs)
      → same_relation t s r ≡ true
  relation_is_same r same =
      at_all t.sizes (relation_at t r).sorts (λ xs. same_truth (rel_at t r xs) (rel_at s r xs))
      (λ xs range. same_as (rel_at t r xs) (rel_at s r xs) (same xs range))

  function_is_same : (f : ℕ)
      → ((xs : List ℕ) → InRange t.sizes (function_at t f).sorts xs → fun_at t f xs ≡ fun_at s f xs)
      → same_function t s f ≡ true
  function_is_same f same =
      at_all t.sizes (function_at t f).sorts (λ xs. fun_at t f xs == fun_at s f xs)
      (λ xs range. eq-eqb (fun_at t f xs) (fun_at s f xs) (same xs range))

  tables_are_met : (m : ModelTree) (line : ℕ) → HasSameTables m t s → first_unmet (table_demands m t s line) ≡ None
  tables_are_met m line same =
      both_met (relation_demands t s line 0 (length m.signature.relations))
      (function_demands t s (line + length m.signature.relations) 0 (length m.signature.functions))
      (each_below (λ r. record { line = line + r; code = denial.WrongEnd; met = same_relation t s r }) 0
      (length m.signature.relations) (λ r lt. relation_is_same r (same.relations r (omega (arith, lt)))))
      (each_below (λ f. record {
        line = (line + length m.signature.relations) + f;
        code = denial.WrongEnd;
        met = same_function t s f;
      })
      0 (length m.signature.functions) (λ f lt. function_is_same f (same.functions f (omega (arith, lt)))))

-- how an execution ends, said of the outcome
abbrev EndsSo : ModelTree → Option Tables → Option Outcome → Type 0
EndsSo m None o = o ≡ Some aborted
EndsSo m (Some t) o = (s : Tables) × (o ≡ Some (ended s)) × HasSameTables m t s

ends_so : (m : ModelTree) (shown : Counterexample) (after : Option Tables) → EndsAs m shown after
    → EndsSo m after (outcome_of m shown)
ends_so m shown None e = e
ends_so m shown (Some t) e = e

through : (m : ModelTree) (after : Option Tables) (o : Option Outcome) → EndsSo m after o → goes_through o ≡ true
through m None o e = ap goes_through e
through m (Some t) o e = ap goes_through e.1

end_is_met : (numbered : TuplesAreNumbered) (m : ModelTree) (g : PrintedGroup) (shown : Counterexample) (a : About)
    (after : Option Tables) (o : Option Outcome) → FailsGoal m a shown.values o → EndsSo m after o
    → first_unmet (end_demands m g a shown after o) ≡ None
end_is_met numbered m g shown about.Abort after o fails ends = refl
end_is_met numbered m g shown (about.Conjecture k) None o fails ends = refl
end_is_met numbered m g shown (about.Conjecture k) (Some t) None fails ends = refl
end_is_met numbered m g shown (about.Conjecture k) (Some t) (Some aborted) fails ends = refl
end_is_met numbered m g shown (about.Conjecture k) (Some t) (Some (ended s)) fails ends =
    let i : ends.0 ≡ s = sym (cc ends.1) in
    let j : fails.1 ≡ s = sym (cc fails.3) in
    let body : truth (reading s) (body_of fails.0) (reverse shown.values) ≡ false =
    subst (λ (z : Tables). truth (reading z) (body_of fails.0) (reverse shown.values) ≡ false) j fails.4.body in
    let met : is_broken (slice_get m.conjectures k) s shown.values ≡ true =
    ap (λ o. is_broken o s shown.values) fails.2 ∙ ap not body in
    both_met (table_demands m t s (end_line m g))
    (record {
      line = end_line m g + table_count m;
      code = denial.NotBroken;
      met = is_broken (slice_get m.conjectures k) s
          shown.values;
    }
    ∷ [])
    (tables_are_met numbered t s m (end_line m g) (subst (HasSameTables m t) i ends.2))
    (first_met
    (record {
      line = end_line m g + table_count m;
      code = denial.NotBroken;
      met = is_broken (slice_get m.conjectures k) s
          shown.values;
    })
    [] met refl)

record IsLawful (m : ModelTree) (x : Stage) (s : Tables) : Type 0 where
  axioms : satisfies s m.axioms ≡ true
  conjectures : is_kept_before m x s ≡ true

is_lawful : (m : ModelTree) (x : Stage) (s : Tables) → is_allowed m m.conjectures x s ≡ true → IsLawful m x s
is_lawful m stage.Init s h = record { axioms = h; conjectures = refl }
is_lawful m (stage.Action a) s h =
    let p = and_parts (satisfies s m.axioms) (satisfies s m.conjectures) h in
    record { axioms = p.0; conjectures = p.1 }
is_lawful m stage.Final s h =
    let p = and_parts (satisfies s m.axioms) (satisfies s m.conjectures) h in
    record { axioms = p.0; conjectures = p.1 }

module _ (numbered : TuplesAreNumbered) (m : ModelTree) where
  execution_is_met : (g : PrintedGroup) (paths : ℕ) (shown : Counterexample) (after : Option Tables)
      → IsExecution m (record { stage = g.stage; about = g.about }) paths shown after → IsShown m shown after
      → first_unmet (execution_demands m g shown after) ≡ None
  execution_is_met g paths shown after exec is =
      let stage_is : shown.goal.stage ≡ g.stage = ap (λ (x : Goal). x.stage) exec.goal in
      let about_is : shown.goal.about ≡ g.about = ap (λ (x : Goal). x.about) exec.goal in
      let out : outcome_of m shown ≡ follow_path m.axioms is.refutes.path shown.trace.havoc shown.structure =
      ap (λ o. followed m o shown) is.refutes.is_path in
      let fails : FailsGoal m g.about shown.values (outcome_of m shown) =
      subst (λ a. FailsGoal m a shown.values (outcome_of m shown)) about_is
      (subst (FailsGoal m shown.goal.about shown.values) (sym out) is.refutes.fails) in
      let ends : EndsSo m after (outcome_of m shown) = ends_so m shown after is.ends in
      let lawful : IsLawful m g.stage shown.structure =
      is_lawful m g.stage shown.structure
      (subst (λ x. is_allowed m m.conjectures x shown.structure ≡ true) stage_is is.refutes.allowed) in
      first_met (record { line = before_line g; code = denial.AxiomIsFalse; met = satisfies shown.structure m.axioms })
      (record { line = before_line g; code = denial.ConjectureIsFalse; met = is_kept_before m g.stage shown.structure }
      ∷ outcome_demands m g shown after (outcome_of m shown)) lawful.axioms
      (first_met (record {
        line = before_line g;
        code = denial.ConjectureIsFalse;
        met = is_kept_before m g.stage
            shown.structure;
      })
      (outcome_demands m g shown after (outcome_of m shown)) lawful.conjectures
      (first_met (record { line = havoc_line m g; code = denial.Blocked; met = goes_through (outcome_of m shown) })
      (end_demands m g g.about shown after (outcome_of m shown)) (through m after (outcome_of m shown) ends)
      (end_is_met numbered m g shown g.about after (outcome_of m shown) fails ends)))

  answer_is_met : (g : PrintedGroup) (a : PrintedAnswer) → CanFollow m g a → Shows m a
      → first_unmet (answer_demands m g a) ≡ None
  answer_is_met g answer.Holds can shows = refl
  answer_is_met g (answer.Fails paths shown after) can shows = execution_is_met g paths shown after can shows
  answer_is_met g answer.Undecided can shows = refl

  groups_are_met : (gs : List PrintedGroup) → AllByRecursion (CanReplay m) gs
      → AllByRecursion (λ g. Shows m g.answer) gs → first_unmet (flat_map (group_demands m) gs) ≡ None
  groups_are_met [] can shows = refl
  groups_are_met (g ∷ gs) can shows =
      both_met (group_demands m g) (flat_map (group_demands m) gs)
      (answer_is_met g g.answer can.0.answer shows.0) (groups_are_met gs can.1 shows.1)

same_as_itself : (v : Verdict) → same_verdict v v ≡ true
same_as_itself verdict.Inductive = refl
same_as_itself verdict.NotInductive = refl
same_as_itself verdict.Undecided = refl

pub right_is_confirmed : TuplesAreNumbered → RightIsConfirmed
right_is_confirmed numbered m p n read is =
    let groups = groups_are_met numbered m p.groups (can_judge m p read) is.shows in
    let last : same_verdict p.verdict (verdict_of p.groups) ≡ true =
    subst (λ w. same_verdict p.verdict w ≡ true) is.verdict (same_as_itself p.verdict) in
    let none : first_unmet (demands m p) ≡ None =
    both_met (flat_map (group_demands m) p.groups) (verdict_demand m p ∷ []) groups
    (first_met (verdict_demand m p) [] last refl) in
    ap (judged_by p) none ∙ ap Confirmed (sym is.count)
