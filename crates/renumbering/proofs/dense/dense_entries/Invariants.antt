use Rattle.std.proofs.Common.{◌≡◌, length, map, take}
use Rattle.cnf_base.specs.Formulas.{AreEntries}
use Rattle.renumbering.specs.Named.{named_entry}
use Rattle.renumbering.proofs.dense.dense_entries.Given as goal

abbrev pub invariant-loop-entry : goal.invariant-loop-entry
invariant-loop-entry l = record {
  name : map (named_entry l.names) l.dense.items ≡ take l.entry-index l.entries;
  range : AreEntries (length l.names) l.dense.items;
}
