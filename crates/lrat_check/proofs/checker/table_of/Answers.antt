use Rattle.std.proofs.Common.{◌∙◌, ◌<◌, length, ap, get_or, List}
use Rattle.cnf_base.specs.declared.cnf.Entry.{Entry}
use Rattle.lrat_check.specs.TableValue.{held_by_table}
use Rattle.lrat_check.proofs.Taken.{entry_more}
use Rattle.lrat_check.proofs.checker.table_of.Goals as goal

pub loop-i-preserved : goal.loop-i-preserved
loop-i-preserved c =
    let items = c.clauses-entry-items.ensures.value in
    let within : c.loop-i.i < length c.args.cnf.now.clauses = rw (← items) c.loop-i-test.true in
    record {
      held = entry_more c.args.cnf.now c.loop-i.i c.entry-item.result (held_by_table c.loop-i.table)
          (held_by_table c.add_entry.new.table) within
          (c.entry-item.is
          ∙ ap (λ (xs : List Entry). get_or xs c.loop-i.i c.entry-item.result) items) c.loop-i.invariant.held
          c.in_ok-add_entry.ensures.held;
      last = c.in_ok-add_entry.ensures.spans;
    }
