use Rattle.std.proofs.Common.{◌≡◌, take}
use Rattle.fol_sig.proofs.structure.copy_relations.Given as goal

abbrev pub invariant-loop-table : goal.invariant-loop-table
invariant-loop-table l = l.all.items ≡ take l.table-index l.tables
