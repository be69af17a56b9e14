use Rattle.std.proofs.Common.{sym, ◌∙◌, ap, refl, length, List, get_or}
use Rattle.lrat_log.specs.declared.line.Line.TheVariants.{Delete}
use Rattle.lrat_log.specs.Held.{held_of, after_lines}
use Rattle.lrat_log.specs.Accepted.{adds_empty}
use Rattle.lrat_check.specs.declared.spans.Span.{Span}
use Rattle.lrat_check.specs.TableValue.{TableValue, held_by_table}
use Rattle.lrat_check.proofs.GrowthLaws.{AreGrowthLaws}
use Rattle.lrat_check.proofs.Taken.{taken, held_after, without_same, last_kept, deletion_accepted, pushed_lines}
use Rattle.lrat_check.proofs.checker.Checker.step_deletion.Goals as goal

pub invariant_of-self-2 : goal.invariant_of-self-2
invariant_of-self-2 c =
    let laws : AreGrowthLaws = record {
      held = c.growth_laws.ensures.held;
      last = c.growth_laws.ensures.last;
      addition = c.growth_laws.ensures.addition;
      deletion = c.growth_laws.ensures.deletion;
      accepted = c.growth_laws.ensures.accepted;
    } in
    let pushed = pushed_lines c.push.new.self.items c.reserve.new.self.items c.self.inside.lines.items
    (Delete c.args.id c.args.ids) (Delete c.args.id c.args.ids)
    c.in-Ok.ensures.items c.in_ok-reserve.ensures.items refl in
    let accepted = deletion_accepted (held_by_table c.self.inside.table)
    (after_lines (held_of c.self.inside.cnf) c.self.inside.lines.items)
    c.args.ids c.as_slice.result.now c.check_deletion.result c.self.invariant.held c.as_slice.ensures
    c.check_deletion.ensures.outcome c.in-Accepted.is in
    let deleted = rw (c.check_deletion.ensures.same, c.as_slice-2.ensures) at c.delete.ensures.held in
    let same_spans = ap (λ (t : TableValue). t.spans) c.check_deletion.ensures.same in
    record {
      accepted = taken laws c.self.inside.cnf c.self.inside.lines.items c.push.new.self.items
          (Delete c.args.id c.args.ids) c.self.invariant.accepted pushed tt accepted;
      held = held_after laws c.self.inside.cnf c.self.inside.lines.items c.push.new.self.items
          (Delete c.args.id c.args.ids)
          (held_by_table c.self.inside.table) (held_by_table c.delete.new.self) pushed c.self.invariant.held
          (without_same (held_by_table c.self.inside.table) (held_by_table c.delete.new.self)
          (after_lines
          (held_of c.self.inside.cnf) c.self.inside.lines.items) c.args.ids deleted c.self.invariant.held);
      last = last_kept laws
          (length c.self.inside.cnf.clauses) c.args.id c.self.inside.lines.items c.push.new.self.items c.args.ids
          c.self.inside.table.spans c.delete.new.self.spans pushed
          (c.delete.ensures.len ∙ ap length same_spans)
          (λ k d. c.delete.ensures.ids k d
          ∙ ap (λ (ss : List Span). (get_or ss k d).id) same_spans) c.self.invariant.last;
      refuted = c.self.invariant.refuted ∙ sym (laws.deletion c.self.inside.lines.items c.args.id c.args.ids)
          ∙ ap adds_empty (sym pushed);
    }
