use Rattle.std.proofs.Common.{◌≡◌, ◌-◌, length}
use Rattle.report_read.specs.Reading.{HasTables, read_functions}
use Rattle.report_read.proofs.tables.read_functions.Given as goal

abbrev pub invariant-loop-fun : goal.invariant-loop-fun
invariant-loop-fun l = record {
  reads : read_functions l.checked.names l.fun (length l.checked.signature.functions - l.fun) l.structure l.reader
      ≡ read_functions l.checked.names 0 (length l.checked.signature.functions) l.fn.partial l.fn.reader;
  has : HasTables l.checked l.sizes l.structure;
}
