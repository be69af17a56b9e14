use Rattle.std.proofs.Common.{length, map, arith, ap, sym, subst, ◌∙◌}
use Rattle.cnf_base.specs.Formulas.{AreEntries}
use Rattle.renumbering.specs.Named.{named_entry}
use Rattle.renumbering.proofs.Lists.{taken_push, entries_push}
use Rattle.renumbering.proofs.dense.dense_entries.Goals as goal

pub loop-entry-preserved : goal.loop-entry-preserved
loop-entry-preserved c =
    let f = named_entry c.args.names.now in
    let done = c.loop-entry.dense.items in
    record {
      name = ap (map f) c.in_ok-push-in-Some.ensures.items
          ∙ taken_push f done c.args.entries.now c.loop-entry.entry-index c.in-Some.own c.entry-item.result
          (omega arith) c.entry-item.is (rw c.in-Some.is at c.in_ok-own.ensures.name) c.loop-entry.invariant.name;
      range = subst (AreEntries (length c.args.names.now)) (sym c.in_ok-push-in-Some.ensures.items)
          (entries_push (length c.args.names.now) done c.in-Some.own c.loop-entry.invariant.range
          (rw c.in-Some.is at c.in_ok-own.ensures.range));
    }
