use Rattle.std.proofs.Common.{◌≡◌, ◌<◌, [], All, length}
use Rattle.fol_sig.specs.Tables.{numbers}
use Rattle.report_values.specs.ValueReading.{elements_end}
use Rattle.report_values.proofs.elements.elements_end.Given as goal

abbrev pub invariant-loop-rest : goal.invariant-loop-rest
invariant-loop-rest l = record {
  sorted : All (λ k. k < length l.structure.sizes) (numbers l.rest);
  reads : elements_end l.structure.sizes (numbers l.rest) l.elements l.scan
      ≡ elements_end l.structure.sizes (numbers l.sorts) [] l.fn.first;
}

abbrev pub decreases-loop-rest : goal.decreases-loop-rest
decreases-loop-rest l = length l.rest
