-- The demands ascend, by lines and on a line by codes. So the first that is not met is the least.
use Rattle.std.proofs.Common.{◌≡◌, ℕ, zero, suc, ◌+◌, ◌*◌, ◌<◌, ◌≤◌, Bool, true, false, List, [], ◌∷◌, ◌++◌, length}
use Rattle.std.proofs.Common.{map}
use Rattle.std.proofs.Common.{refl, ap, ◌∙◌, inl, inr, cond, arith, length-append, Option, Some, None}
use Rattle.std.specs.Prelude.{slice_get}
use Rattle.std.specs.List.{AllByRecursion, flat_map}
use Rattle.base.specs.Lists.{count_from}
use Rattle.fol_sig.specs.Tables.{Tables}
use Rattle.rml_command.specs.Outcomes.{Outcome, ended, aborted}
use Rattle.rml_command.specs.Models.{ModelTree}
use Rattle.rml_command.specs.Goals.{groups_of}
use Rattle.rml_command.specs.declared.goal.Head.{Head}
use Rattle.rml_command.specs.declared.goal.About.{About}
use Rattle.rml_command.specs.declared.goal.About.TheVariants as about
use Rattle.rml_exec.specs.declared.trace.Counterexample.{Counterexample}
use Rattle.rml_report.specs.ReportText.{outcome_of, verdict_text}
use Rattle.printed_report.specs.PrintedReports.{AreGroups, IsPrinted}
use Rattle.printed_report.specs.declared.printed.Printed.{Printed}
use Rattle.printed_report.specs.declared.printed.PrintedGroup.{PrintedGroup}
use Rattle.printed_report.specs.declared.printed.PrintedAnswer.{PrintedAnswer}
use Rattle.printed_report.specs.declared.printed.PrintedAnswer.TheVariants as answer
use Rattle.report_replay.specs.DenialCodes.{number_of}
use Rattle.report_replay.specs.declared.denial.DenialCode.{DenialCode}
use Rattle.report_replay.specs.Demands.{Demand, same_relation, same_function}
use Rattle.report_replay.specs.Demands.{relation_demands, function_demands, table_demands, table_count, is_broken}
use Rattle.report_replay.specs.Demands.{end_demands, execution_demands, answer_demands, group_demands}
use Rattle.report_replay.specs.Demands.{havoc_line, end_line}
use Rattle.report_replay.specs.Judgements.{first_unmet, demands, judged_by, verdict_demand, height}
use Rattle.report_replay.specs.Judgements.{fails_height}
use Rattle.report_replay.specs.Laws.{IsNotBefore, IsFirstBroken, DeniedIsLeast}
use Rattle.report_replay.specs.declared.judged.Fault.{Fault}
use Rattle.report_replay.specs.declared.judged.Judged.TheVariants.{Denied}
use Rattle.report_replay.specs.declared.denial.DenialCode.TheVariants as denial
use Rattle.report_replay.proofs.Heights.{group_takes, verdict_is_last}

-- lines count first, and then codes, which are below 8
abbrev key : Demand → ℕ
key d = d.line * 8 + number_of d.code

abbrev Between : ℕ → List Demand → ℕ → Type 0
Between lo [] hi = lo ≤ hi
Between lo (d ∷ ds) hi = (lo ≤ key d) × (number_of d.code < 8) × Between (key d) ds hi

lower : (lo low : ℕ) (ds : List Demand) (hi : ℕ) → low ≤ lo → Between lo ds hi → Between low ds hi
lower lo low [] hi le b = omega (arith, le, b)
lower lo low (d ∷ ds) hi le b = let h = b.0 in (omega (arith, le, h), b.1, b.2)

higher : (lo : ℕ) (ds : List Demand) (hi high : ℕ) → hi ≤ high → Between lo ds hi → Between lo ds high
higher lo [] hi high le b = omega (arith, le, b)
higher lo (d ∷ ds) hi high le b = (b.0, b.1, higher (key d) ds hi high le b.2)

joined : (lo : ℕ) (xs : List Demand) (mid : ℕ) (ys : List Demand) (hi : ℕ) → Between lo xs mid → Between mid ys hi
    → Between lo (xs ++ ys) hi
joined lo [] mid ys hi a b = lower mid lo ys hi a b
joined lo (d ∷ ds) mid ys hi a b = (a.0, a.1, joined (key d) ds mid ys hi a.2 b)

-- n lines in a row
each_between : (D : ℕ → Demand) (base : ℕ) → ((i : ℕ) → (D i).line ≡ base + i) → ((i : ℕ) → number_of (D i).code ≡ 5)
    → (k n lo : ℕ) → lo ≤ (base + k) * 8 + 5 → Between lo (map D (count_from k n)) ((base + (k + n)) * 8 + 5)
each_between D base line code k zero lo le = omega (arith, le)
each_between D base line code k (suc n) lo le =
    let l = line k in
    let c = code k in
    let next : key (D k) ≤ (base + suc k) * 8 + 5 = omega (arith, l, c) in
    let e : (base + (suc k + n)) * 8 + 5 ≤ (base + (k + suc n)) * 8 + 5 = omega arith in (
      omega (arith, le, l, c),
      omega (arith, c),
      higher (key (D k)) (map D (count_from (suc k) n)) ((base + (suc k + n)) * 8 + 5) ((base + (k + suc n)) * 8 + 5) e
          (each_between D base line code (suc k) n (key (D k)) next),
    )

tables_between : (m : ModelTree) (t s : Tables) (line lo : ℕ) → lo ≤ line * 8 + 5
    → Between lo (table_demands m t s line) ((line + table_count m) * 8 + 5)
tables_between m t s line lo le =
    let rs : ℕ = length m.signature.relations in
    let fs : ℕ = length m.signature.functions in
    let first : Between lo (relation_demands t s line 0 (length m.signature.relations))
    ((line + (0 + length m.signature.relations)) * 8 + 5) =
    each_between (λ r. record { line = line + r; code = denial.WrongEnd; met = same_relation t s r }) line (λ i. refl)
    (λ i. refl) 0
    (length m.signature.relations) lo (omega (arith, le)) in
    let second : Between ((line + (0 + length m.signature.relations)) * 8 + 5)
    (function_demands t s (line + length m.signature.relations) 0 (length m.signature.functions))
    (((line + length m.signature.relations) + (0 + length m.signature.functions)) * 8 + 5) =
    each_between (λ f. record
    { line = (line + length m.signature.relations) + f; code = denial.WrongEnd; met = same_function t s f })
    (line + length m.signature.relations) (λ i. refl) (λ i. refl) 0 (length m.signature.functions)
    ((line + (0 + length m.signature.relations)) * 8 + 5) (omega arith) in
    higher lo (table_demands m t s line)
    (((line + length m.signature.relations) + (0 + length m.signature.functions)) * 8 + 5)
    ((line + table_count m) * 8 + 5) (omega arith)
    (joined lo (relation_demands t s line 0 (length m.signature.relations))
    ((line + (0 + length m.signature.relations)) * 8 + 5)
    (function_demands t s (line + length m.signature.relations) 0 (length m.signature.functions))
    (((line + length m.signature.relations) + (0 + length m.signature.functions)) * 8 + 5) first second)

-- behind the line `havoc:`, up to the end of the group
end_between : (m : ModelTree) (g : PrintedGroup) (a : About) (shown : Counterexample) (after : Option Tables)
    (o : Option Outcome) → Between (havoc_line m g * 8 + 4) (end_demands m g a shown after o)
    ((g.line + fails_height m a) * 8)
end_between m g about.Abort shown after o = omega arith
end_between m g (about.Conjecture k) shown None o = omega arith
end_between m g (about.Conjecture k) shown (Some t) None = omega arith
end_between m g (about.Conjecture k) shown (Some t) (Some aborted) = omega arith
end_between m g (about.Conjecture k) shown (Some t) (Some (ended s)) =
    joined (havoc_line m g * 8 + 4) (table_demands m t s (end_line m g)) ((end_line m g + table_count m) * 8 + 5)
    (record {
      line = end_line m g + table_count m;
      code = denial.NotBroken;
      met = is_broken (slice_get m.conjectures k) s
          shown.values;
    }
    ∷ []) ((g.line + fails_height m (about.Conjecture k)) * 8)
    (tables_between m t s (end_line m g) (havoc_line m g * 8 + 4) (omega arith))
    (omega arith, omega arith, omega arith)

execution_between : (m : ModelTree) (g : PrintedGroup) (shown : Counterexample) (after : Option Tables)
    → Between (g.line * 8) (execution_demands m g shown after) ((g.line + fails_height m g.about) * 8)
execution_between m g shown after = (
  omega arith,
  omega arith,
  (omega arith, omega arith, (omega arith, omega arith, end_between m g g.about shown after (outcome_of m shown))),
)

answer_between : (m : ModelTree) (g : PrintedGroup) (a : PrintedAnswer)
    → Between (g.line * 8) (answer_demands m g a) ((g.line + height m g.about a) * 8)
answer_between m g answer.Holds = omega arith
answer_between m g (answer.Fails paths shown after) = execution_between m g shown after
answer_between m g answer.Undecided = omega arith

groups_between : (m : ModelTree) (n : ℕ) (groups : List Head) (gs : List PrintedGroup) (lines : List (List ℕ))
    → AreGroups m n groups gs lines → Between (n * 8) (flat_map (group_demands m) gs) ((n + length lines) * 8)
groups_between m n [] [] lines are = omega arith
groups_between m n [] (g ∷ gs) lines are = absurd are
groups_between m n (group ∷ groups) [] lines are = absurd are
groups_between m n (group ∷ groups) (g ∷ gs) lines are =
    let at = are.2.line in
    let tall = group_takes m n group g are.0 are.2 in
    let all = ap (length {A = List ℕ}) are.4 in
    let sum = length-append are.0 are.1 in
    joined (n * 8) (group_demands m g) ((n + length are.0) * 8) (flat_map (group_demands m) gs) ((n + length lines) * 8)
    (higher (n * 8) (group_demands m g) ((g.line + height m g.about g.answer) * 8) ((n + length are.0) * 8)
    (omega (arith, at, tall))
    (lower (g.line * 8) (n * 8) (group_demands m g) ((g.line + height m g.about g.answer) * 8) (omega (arith, at))
    (answer_between m g g.answer)))
    (higher ((n + length are.0) * 8) (flat_map (group_demands m) gs) (((n + length are.0) + length are.1) * 8)
    ((n + length lines) * 8) (omega (arith, all, sum))
    (groups_between m (n + length are.0) groups gs are.1 are.3))

-- some end is above all that is asked
record AreBetween (ds : List Demand) : Type 0 where
  most : ℕ
  between : Between 0 ds most

demands_between : (m : ModelTree) (p : Printed) (lines : List (List ℕ)) → IsPrinted m p lines
    → AreBetween (demands m p)
demands_between m p lines printed =
    let last = verdict_is_last m p lines printed in
    let all = ap (length {A = List ℕ}) printed.text in
    let sum = length-append printed.middle (verdict_text p.verdict ∷ []) in
    let groups = groups_between m 2 (groups_of m) p.groups printed.middle printed.groups in
    record {
      most = key (verdict_demand m p);
      between = joined 0 (flat_map (group_demands m) p.groups) ((2 + length printed.middle) * 8)
          (verdict_demand m p ∷ []) (key (verdict_demand m p))
          (lower (2 * 8) 0 (flat_map (group_demands m) p.groups) ((2 + length printed.middle) * 8) (omega arith) groups)
          (omega (arith, last, all, sum), omega arith, omega arith);
    }

-- what stands behind a key
behind : (ds : List Demand) (lo hi line : ℕ) (code : DenialCode) → Between lo ds hi → line * 8 + number_of code ≤ lo
    → number_of code < 8
    → AllByRecursion (IsNotBefore line code) ds
behind [] lo hi line code b le few = tt
behind (d ∷ ds) lo hi line code b le few =
    let from = b.0 in
    let small = b.1 in (
      record {
        behind = λ _. omega (arith, from, small, le, few);
        same_line = λ _ same. omega (arith, from, small, le, few, same);
      },
      behind ds (key d) hi line code b.2 (omega (arith, from, le)) few,
    )

told : (d : Demand) (f : Fault) → Some (record { line = d.line; code = d.code }) ≡ Some f
    → record { line = d.line; code = d.code } ≡ f
told d f e = cc e

is_first : (ds : List Demand) (lo hi : ℕ) (f : Fault) → Between lo ds hi → first_unmet ds ≡ Some f
    → IsFirstBroken ds f.line f.code
is_first [] lo hi f b e = absurd (cc e)
is_first (d ∷ ds) lo hi f b e = by d.met refl e (is_first ds (key d) hi f b.2)
  where
    by : (t : Bool) → d.met ≡ t → cond t (first_unmet ds) (Some (record { line = d.line; code = d.code })) ≡ Some f
        → (first_unmet ds ≡ Some f → IsFirstBroken ds f.line f.code) → IsFirstBroken (d ∷ ds) f.line f.code
    by true is g more =
        let r = more g in
        record {
          broken = inr r.broken;
          least = (
            record {
              behind = λ unmet. absurd (cc (is, unmet));
              same_line = λ unmet _. absurd (cc (is, unmet));
            },
            r.least,
          );
        }
    by false is g more =
        let w : record { line = d.line; code = d.code } ≡ f = told d f g in
        let l : d.line ≡ f.line = ap (λ (x : Fault). x.line) w in
        let c : d.code ≡ f.code = ap (λ (x : Fault). x.code) w in
        let n = ap number_of c in
        let small = b.1 in
        record {
          broken = inl (record { unmet = is; line_is = l; code_is = c });
          least = (
            record { behind = λ _. omega (arith, l); same_line = λ _ _. omega (arith, n) },
            behind ds (key d) hi f.line f.code b.2 (omega (arith, l, n)) (omega (arith, small, n)),
          );
        }

denied_by : (p : Printed) (o : Option Fault) (line : ℕ) (code : DenialCode) → judged_by p o ≡ Denied line code
    → o ≡ Some (record { line = line; code = code })
denied_by p None line code e = absurd (cc e)
denied_by p (Some f) line code e =
    let l : f.line ≡ line = cc e in
    let c : f.code ≡ code = cc e in
    ap (λ n. Some (record { line = n; code = f.code })) l
    ∙ ap (λ (n : DenialCode). Some (record { line = line; code = n })) c

pub denied_is_least : DeniedIsLeast
denied_is_least m p line code read e =
    let all = demands_between m p read.0 read.1 in
    is_first (demands m p) 0 all.most (record { line = line; code = code }) all.between
    (denied_by p (first_unmet (demands m p)) line code e)
