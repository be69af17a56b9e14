use Rattle.std.proofs.Common.{◌≡◌, ℕ, ◌-◌, ◌+◌, List, [], ◌∷◌, length, map, rules, refl, sym, ap, ◌∙◌, arith, subst}
use Rattle.std.specs.Prelude.{Err}
use Rattle.base.specs.Lists.{count_from}
use Rattle.fol_formula.specs.Syntax.{FormTree}
use Rattle.rml_command.specs.Models.{ModelTree}
use Rattle.rml_command.specs.Goals.{stage_groups}
use Rattle.rml_command.specs.declared.goal.Head.{Head}
use Rattle.rml_command.specs.declared.goal.Stage.{Stage}
use Rattle.rml_command.specs.declared.goal.About.TheVariants as about
use Rattle.report_read.specs.Reading.{Reads, read_groups}
use Rattle.report_read.proofs.GroupTurns.{groups_next, groups_err, map_step}
use Rattle.report_read.proofs.groups.read_stage.Goals as goal

abbrev form : Stage → ℕ → Head
form s k = record { stage = s; about = about.Conjecture k }

abbrev abort : Stage → Head
abort s = record { stage = s; about = about.Abort }

pub loop-k-init : goal.loop-k-init
loop-k-init c =
    let count = ap (λ (cs : List FormTree). length cs)
    (c.conjectures.ensures.value ∙ ap (λ (m : ModelTree). m.conjectures) c.model.ensures.value) in
    let e : length c.conjectures.result.now - 0 ≡ length c.args.checked.now.conjectures = omega (arith, count) in
    record {
      count = count;
      reads = ap (λ n. read_groups c.args.checked.now (map (form c.args.stage) (count_from 0 n)) c.in_ok-groups.groups
          c.push_group.new.reader) e
          ∙ sym (groups_next c.args.checked.now (abort c.args.stage ∷ [])
          (map (form c.args.stage) (count_from 0 (length c.args.checked.now.conjectures))) c.args.before
          c.in_ok-groups.groups c.args.reader.now c.push_group.new.reader c.in_ok-groups.ensures);
    }

pub loop-k-preserved : goal.loop-k-preserved
loop-k-preserved c = record {
  count = c.loop-k.invariant.count;
  reads = sym (groups_next c.args.checked.now (form c.args.stage c.loop-k.k ∷ [])
      (map (form c.args.stage) (count_from (c.loop-k.k + 1) (length c.conjectures.result.now - (c.loop-k.k + 1))))
      c.loop-k.groups c.in_ok-groups-2.groups c.loop-k.reader c.push_group-in-loop-k.new.reader
      c.in_ok-groups-2.ensures)
      ∙ ap (λ gs. read_groups c.args.checked.now gs c.loop-k.groups c.loop-k.reader)
      (sym (map_step (form c.args.stage) c.loop-k.k (length c.conjectures.result.now) c.loop-k-test.true))
      ∙ c.loop-k.invariant.reads;
}

pub returns-in_err-groups-2 : goal.returns-in_err-groups-2
returns-in_err-groups-2 c =
    let handed : c.from_residual-in_err-groups-2.result ≡ Err c.in_err-groups-2.field-0.0 = search rules in
    subst (Reads (read_groups c.args.checked.now (stage_groups c.args.checked.now c.args.stage) c.args.before
    c.args.reader.now) c.push_group-in-loop-k.new.reader) (sym handed)
    (groups_err c.args.checked.now (form c.args.stage c.loop-k.k ∷ [])
    (map (form c.args.stage) (count_from (c.loop-k.k + 1) (length c.conjectures.result.now - (c.loop-k.k + 1))))
    (stage_groups c.args.checked.now c.args.stage) c.loop-k.groups c.args.before c.loop-k.reader c.args.reader.now
    c.push_group-in-loop-k.new.reader c.in_err-groups-2.field-0.0
    (ap (λ gs. read_groups c.args.checked.now gs c.loop-k.groups c.loop-k.reader)
    (sym (map_step (form c.args.stage) c.loop-k.k (length c.conjectures.result.now) c.loop-k-test.true))
    ∙ c.loop-k.invariant.reads) c.in_err-groups-2.ensures)

pub returns-in_err-groups : goal.returns-in_err-groups
returns-in_err-groups c =
    let handed : c.from_residual.result ≡ Err c.in_err-groups.field-0.0 = search rules in
    subst (Reads (read_groups c.args.checked.now (stage_groups c.args.checked.now c.args.stage) c.args.before
    c.args.reader.now) c.push_group.new.reader) (sym handed)
    (groups_err c.args.checked.now (abort c.args.stage ∷ [])
    (map (form c.args.stage) (count_from 0 (length c.args.checked.now.conjectures)))
    (stage_groups c.args.checked.now c.args.stage) c.args.before c.args.before c.args.reader.now c.args.reader.now
    c.push_group.new.reader c.in_err-groups.field-0.0 refl c.in_err-groups.ensures)
