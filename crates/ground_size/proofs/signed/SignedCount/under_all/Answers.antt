use Rattle.std.proofs.Common.{true}
use Rattle.fol_nnf.specs.Normal.{normal}
use Rattle.ground_size.proofs.LeafCounts.{over}
use Rattle.ground_size.proofs.signed.SignedCount.under_all.Goals as goal

pub returns : goal.returns
returns c = λ counts k p is h. record {
  positive = over counts k c.args.terms c.args.self.positive c.saturating_mul.result c.saturating_add.result
      (normal true p) is h.positive c.saturating_mul.ensures c.saturating_add.ensures;
  negative = h.negative;
}
