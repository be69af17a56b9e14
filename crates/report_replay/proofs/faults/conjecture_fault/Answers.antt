use Rattle.std.proofs.Common.{◌≡◌, ◌+◌, ℕ, [], ◌∷◌, ◌++◌, List, Some, None, Option, true, false, sym, ◌∙◌, ap, arith}
use Rattle.std.specs.Prelude.{slice_get}
use Rattle.fol_sig.specs.Tables.{Tables}
use Rattle.rml_command.specs.Models.{ModelTree}
use Rattle.report_replay.specs.Demands.{table_demands, table_count, end_line, is_broken}
use Rattle.report_replay.specs.Judgements.{first_unmet}
use Rattle.report_replay.specs.declared.judged.Fault.{Fault}
use Rattle.report_replay.specs.declared.denial.DenialCode.TheVariants as denial
use Rattle.report_replay.proofs.Unmet.{unmet_first, unmet_second, unmet_one, met_one}
use Rattle.report_replay.proofs.faults.conjecture_fault.Goals as goal

module _ (m : ModelTree) (t s : Tables) (k : ℕ) (values : List ℕ) (at line : ℕ) (is : at ≡ line)
    (found : Option Fault) (told : found ≡ first_unmet (table_demands m t s at)) where
  tables_told : found ≡ first_unmet (table_demands m t s line)
  tables_told = told ∙ ap (λ n. first_unmet (table_demands m t s n)) is

  in_tables : (f : Fault) → found ≡ Some f → Some f
      ≡ first_unmet (table_demands m t s line
      ++ record {
        line = line + table_count m;
        code = denial.NotBroken;
        met = is_broken (slice_get m.conjectures k) s
            values;
      } ∷ [])
  in_tables f e =
      unmet_first (table_demands m t s line)
      (record {
        line = line + table_count m;
        code = denial.NotBroken;
        met = is_broken (slice_get m.conjectures k) s
            values;
      } ∷ []) f
      (sym tables_told ∙ e)

  is_met : found ≡ None → is_broken (slice_get m.conjectures k) s values ≡ true → None
      ≡ first_unmet (table_demands m t s line
      ++ record {
        line = line + table_count m;
        code = denial.NotBroken;
        met = is_broken (slice_get m.conjectures k) s
            values;
      } ∷ [])
  is_met e met =
      unmet_second (table_demands m t s line)
      (record {
        line = line + table_count m;
        code = denial.NotBroken;
        met = is_broken (slice_get m.conjectures k) s
            values;
      } ∷ []) None
      (sym tables_told ∙ e)
      (met_one (record {
        line = line + table_count m;
        code = denial.NotBroken;
        met = is_broken (slice_get m.conjectures k) s values;
      }) met)

  is_unmet : (count : ℕ) → count ≡ table_count m → found ≡ None → is_broken (slice_get m.conjectures k) s values ≡ false
      → Some (record { line = at + count; code = denial.NotBroken })
      ≡ first_unmet (table_demands m t s line
      ++ record {
        line = line + table_count m;
        code = denial.NotBroken;
        met = is_broken (slice_get m.conjectures k) s
            values;
      } ∷ [])
  is_unmet count c e met =
      let l : at + count ≡ line + table_count m = omega (arith, is, c) in
      unmet_second (table_demands m t s line)
      (record {
        line = line + table_count m;
        code = denial.NotBroken;
        met = is_broken (slice_get m.conjectures k) s
            values;
      } ∷ [])
      (Some (record { line = at + count; code = denial.NotBroken }))
      (sym tables_told ∙ e)
      (ap (λ (n : ℕ). Some (record { line = n; code = denial.NotBroken })) l
      ∙ unmet_one (record {
        line = line + table_count m;
        code = denial.NotBroken;
        met = is_broken (slice_get m.conjectures k) s
            values;
      })
      met)

pub table_fault-requires-clause-room : goal.table_fault-requires-clause-room
table_fault-requires-clause-room c =
    let small = c.end_line-line.ensures.small in
    let count = c.tables-count.ensures.count in
    let few = c.tables-count.ensures.few in
    omega (arith, small, count, few)

pub returns-in-Some : goal.returns-in-Some
returns-in-Some c =
    in_tables c.args.checked.now c.args.after.now c.args.end.now c.args.conjecture c.args.shown.now.values
    c.end_line-line.result (end_line c.args.checked.now c.args.group.now) c.end_line-line.ensures.value
    c.in_ok-fault.field-0 c.in_ok-fault.ensures c.in-Some.fault c.in-Some.is

pub returns-then-is_broken : goal.returns-then-is_broken
returns-then-is_broken c =
    is_met c.args.checked.now c.args.after.now c.args.end.now c.args.conjecture c.args.shown.now.values
    c.end_line-line.result (end_line c.args.checked.now c.args.group.now) c.end_line-line.ensures.value
    c.in_ok-fault.field-0 c.in_ok-fault.ensures c.in_default.is
    (ap (λ (v : List ℕ). is_broken (slice_get c.args.checked.now.conjectures c.args.conjecture) c.args.end.now v)
    (sym c.as_slice.ensures) ∙ sym c.is_broken.ensures ∙ c.if-is_broken.true)

pub returns : goal.returns
returns c =
    is_unmet c.args.checked.now c.args.after.now c.args.end.now c.args.conjecture c.args.shown.now.values
    c.end_line-line.result (end_line c.args.checked.now c.args.group.now) c.end_line-line.ensures.value
    c.in_ok-fault.field-0 c.in_ok-fault.ensures c.tables-count.result c.tables-count.ensures.count c.in_default.is
    (ap (λ (v : List ℕ). is_broken (slice_get c.args.checked.now.conjectures c.args.conjecture) c.args.end.now v)
    (sym c.as_slice.ensures) ∙ sym c.is_broken.ensures ∙ c.if-is_broken.false)
