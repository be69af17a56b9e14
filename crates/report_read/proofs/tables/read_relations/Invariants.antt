use Rattle.std.proofs.Common.{◌≡◌, ◌-◌, length}
use Rattle.report_read.specs.Reading.{HasTables, read_relations}
use Rattle.report_read.proofs.tables.read_relations.Given as goal

abbrev pub invariant-loop-rel : goal.invariant-loop-rel
invariant-loop-rel l = record {
  reads : read_relations l.checked.names l.rel (length l.checked.signature.relations - l.rel) l.structure l.reader
      ≡ read_relations l.checked.names 0 (length l.checked.signature.relations) l.fn.blank l.fn.reader;
  has : HasTables l.checked l.sizes l.structure;
}
