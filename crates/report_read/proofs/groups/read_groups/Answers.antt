use Rattle.std.proofs.Common.{◌≡◌, ℕ, ◌-◌, ◌+◌, List, [], ◌∷◌, ◌++◌, length, rules, sym, ap, ◌∙◌, arith, subst, refl}
use Rattle.std.proofs.lemmas.List.{length-map}
use Rattle.std.specs.Prelude.{Err}
use Rattle.std.specs.List.{flat_map}
use Rattle.base.specs.Lists.{count_from}
use Rattle.rml_command.specs.Trees.{CommandTree}
use Rattle.rml_command.specs.Models.{ModelTree}
use Rattle.rml_command.specs.Goals.{stage_groups, groups_of}
use Rattle.rml_command.specs.declared.goal.Head.{Head}
use Rattle.rml_command.specs.declared.goal.Stage.TheVariants as stage
use Rattle.rml_command.specs.declared.goal.About.TheVariants as about
use Rattle.printed_report.specs.declared.printed.PrintedGroup.{PrintedGroup}
use Rattle.report_read.specs.Reading.{Reads, read_groups}
use Rattle.report_read.proofs.GroupTurns.{groups_next, groups_err, flat_step, flat_end}
use Rattle.report_read.proofs.groups.read_groups.Goals as goal

abbrev of_action : ModelTree → ℕ → List Head
of_action m a = stage_groups m (stage.Action a)

abbrev last : List Head
last = record { stage = stage.Final; about = about.Abort } ∷ []

abbrev others : ModelTree → ℕ → ℕ → List Head
others m a n = flat_map (of_action m) (count_from a n) ++ last

pub loop-a-init : goal.loop-a-init
loop-a-init c =
    let count : length c.actions.result.now ≡ length c.args.checked.now.actions =
    sym (length-map c.actions.result.now _) ∙ ap (λ (cs : List CommandTree). length cs)
    (c.actions.ensures.value ∙ ap (λ (m : ModelTree). m.actions) c.model.ensures.value) in
    let e : length c.actions.result.now - 0 ≡ length c.args.checked.now.actions = omega (arith, count) in
    record {
      count = count;
      reads = ap (λ n. read_groups c.args.checked.now (others c.args.checked.now 0 n) c.in_ok-groups.groups
          c.read_stage.new.reader) e
          ∙ sym (groups_next c.args.checked.now (stage_groups c.args.checked.now stage.Init)
          (others c.args.checked.now 0 (length c.args.checked.now.actions)) [] c.in_ok-groups.groups
          c.args.reader.now c.read_stage.new.reader
          (ap (λ (gs : List PrintedGroup). read_groups c.args.checked.now
          (stage_groups c.args.checked.now stage.Init) gs c.args.reader.now) (sym c.new.ensures)
          ∙ c.in_ok-groups.ensures));
    }

pub loop-a-preserved : goal.loop-a-preserved
loop-a-preserved c = record {
  count = c.loop-a.invariant.count;
  reads = sym (groups_next c.args.checked.now (of_action c.args.checked.now c.loop-a.a)
      (others c.args.checked.now (c.loop-a.a + 1) (length c.actions.result.now - (c.loop-a.a + 1)))
      c.loop-a.groups c.in_ok-groups-2.groups c.loop-a.reader c.read_stage-in-loop-a.new.reader
      c.in_ok-groups-2.ensures)
      ∙ ap (λ gs. read_groups c.args.checked.now gs c.loop-a.groups c.loop-a.reader)
      (sym (flat_step (of_action c.args.checked.now) last c.loop-a.a (length c.actions.result.now) c.loop-a-test.true))
      ∙ c.loop-a.invariant.reads;
}

pub returns-in_err-groups-2 : goal.returns-in_err-groups-2
returns-in_err-groups-2 c =
    let handed : c.from_residual-in_err-groups-2.result ≡ Err c.in_err-groups-2.field-0.0 = search rules in
    subst (Reads (read_groups c.args.checked.now (groups_of c.args.checked.now) [] c.args.reader.now)
    c.read_stage-in-loop-a.new.reader) (sym handed)
    (groups_err c.args.checked.now (of_action c.args.checked.now c.loop-a.a)
    (others c.args.checked.now (c.loop-a.a + 1) (length c.actions.result.now - (c.loop-a.a + 1)))
    (groups_of c.args.checked.now) c.loop-a.groups [] c.loop-a.reader c.args.reader.now
    c.read_stage-in-loop-a.new.reader c.in_err-groups-2.field-0.0
    (ap (λ gs. read_groups c.args.checked.now gs c.loop-a.groups c.loop-a.reader)
    (sym (flat_step (of_action c.args.checked.now) last c.loop-a.a (length c.actions.result.now) c.loop-a-test.true))
    ∙ c.loop-a.invariant.reads) c.in_err-groups-2.ensures)

pub returns-in_err-groups : goal.returns-in_err-groups
returns-in_err-groups c =
    let handed : c.from_residual.result ≡ Err c.in_err-groups.field-0.0 = search rules in
    let reads = subst (λ (gs : List PrintedGroup). Reads (read_groups c.args.checked.now
    (stage_groups c.args.checked.now stage.Init) gs c.args.reader.now) c.read_stage.new.reader
    (Err c.in_err-groups.field-0.0)) c.new.ensures c.in_err-groups.ensures in
    subst (Reads (read_groups c.args.checked.now (groups_of c.args.checked.now) [] c.args.reader.now)
    c.read_stage.new.reader) (sym handed)
    (groups_err c.args.checked.now (stage_groups c.args.checked.now stage.Init)
    (others c.args.checked.now 0 (length c.args.checked.now.actions))
    (groups_of c.args.checked.now) [] [] c.args.reader.now c.args.reader.now
    c.read_stage.new.reader c.in_err-groups.field-0.0 refl reads)

pub returns : goal.returns
returns c =
    subst (λ r. Reads r c.push_group.new.reader c.push_group.result)
    (ap (λ gs. read_groups c.args.checked.now gs c.loop-a.groups c.loop-a.reader)
    (sym (flat_end (of_action c.args.checked.now) last c.loop-a.a (length c.actions.result.now) c.loop-a-test.false))
    ∙ c.loop-a.invariant.reads) c.push_group.ensures
