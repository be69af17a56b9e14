use Rattle.std.proofs.Common.{◌≡◌, ◌<◌, ◌-◌, [], All, length}
use Rattle.report_read.specs.Reading.{read_sizes}
use Rattle.report_read.proofs.tables.read_sizes.Given as goal

abbrev pub invariant-loop-sort : goal.invariant-loop-sort
invariant-loop-sort l = record {
  reads : read_sizes l.checked.names l.sort (l.checked.signature.sorts - l.sort) l.sizes l.reader
      ≡ read_sizes l.checked.names 0 l.checked.signature.sorts [] l.fn.reader;
  count : length l.sizes ≡ l.sort;
  positive : All (λ n. 0 < n) l.sizes;
}
