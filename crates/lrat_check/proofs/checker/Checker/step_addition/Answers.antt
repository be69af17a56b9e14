use Rattle.std.proofs.Common.{◌∙◌, ap, refl, length}
use Rattle.lrat_log.specs.declared.line.Line.TheVariants.{Add}
use Rattle.cnf_base.specs.Clauses.{has_opposites}
use Rattle.lrat_log.specs.Held.{held_of, after_lines}
use Rattle.lrat_check.specs.TableValue.{held_by_table}
use Rattle.lrat_check.proofs.GrowthLaws.{AreGrowthLaws}
use Rattle.lrat_check.proofs.Taken.{taken, held_after, with_clause_same, last_after, addition_accepted, pushed_lines}
use Rattle.lrat_check.proofs.Taken.{refuted_after}
use Rattle.lrat_check.proofs.checker.Checker.step_addition.Goals as goal

pub returns-clause-accepted : goal.returns-clause-accepted
returns-clause-accepted c =
    rw (← c.self.view_is)
    (addition_accepted (held_by_table c.self.inside.table)
    (after_lines (held_of c.self.inside.cnf) c.self.inside.lines.items)
    c.args.lits c.as_slice-clause.result.now c.args.hints c.as_slice.result.now c.in_ok-checked.checked.0
    c.self.invariant.held c.as_slice-clause.ensures c.as_slice.ensures c.in_ok-checked.ensures.outcome c.in-Accepted.is)

pub invariant_of-self-2 : goal.invariant_of-self-2
invariant_of-self-2 c =
    let laws : AreGrowthLaws = record {
      held = c.growth_laws.ensures.held;
      last = c.growth_laws.ensures.last;
      addition = c.growth_laws.ensures.addition;
      deletion = c.growth_laws.ensures.deletion;
      accepted = c.growth_laws.ensures.accepted;
    } in
    let fit = rw (← c.self.view_is) at c.requires in
    let pushed = pushed_lines c.push.new.self.items c.reserve.new.self.items c.self.inside.lines.items
    (Add c.args.id c.args.lits c.args.hints) (Add c.args.id c.args.lits c.args.hints)
    c.in-Ok.ensures.items c.in_ok-reserve.ensures.items refl in
    let accepted = addition_accepted (held_by_table c.self.inside.table)
    (after_lines (held_of c.self.inside.cnf) c.self.inside.lines.items)
    c.args.lits c.as_slice-clause.result.now c.args.hints c.as_slice.result.now c.in_ok-checked.checked.0
    c.self.invariant.held c.as_slice-clause.ensures c.as_slice.ensures c.in_ok-checked.ensures.outcome
    c.in-Accepted.is in
    let added = rw (c.check_addition.ensures.same, c.as_slice-clause.ensures) at c.in_ok-add.ensures.ok in
    record {
      accepted = taken laws c.self.inside.cnf c.self.inside.lines.items c.push.new.self.items
          (Add c.args.id c.args.lits c.args.hints) c.self.invariant.accepted pushed fit accepted;
      held = held_after laws c.self.inside.cnf c.self.inside.lines.items c.push.new.self.items
          (Add c.args.id c.args.lits c.args.hints)
          (held_by_table c.self.inside.table) (held_by_table c.add.new.self) pushed c.self.invariant.held
          (with_clause_same (held_by_table c.self.inside.table) (held_by_table c.add.new.self)
          (after_lines
          (held_of c.self.inside.cnf) c.self.inside.lines.items) c.args.id c.args.lits c.in_ok-checked.checked.1
          (c.in_ok-checked.ensures.opposites
          ∙ ap has_opposites c.as_slice-clause.ensures) added c.self.invariant.held);
      last = last_after laws
          (length c.self.inside.cnf.clauses) c.args.id c.self.inside.lines.items c.push.new.self.items c.args.lits
          c.args.hints c.add.new.self.spans pushed c.in_ok-add.ensures.spans_ok;
      refuted = refuted_after laws c.self.inside.lines.items c.push.new.self.items c.args.id c.args.lits
          c.as_slice-clause.result.now c.args.hints c.self.inside.is_refuted c.is_empty.result pushed
          c.as_slice-clause.ensures c.self.invariant.refuted c.is_empty.ensures;
    }
