use Rattle.std.proofs.Common.{false}
use Rattle.fol_nnf.specs.Normal.{normal}
use Rattle.ground_size.proofs.LeafCounts.{over}
use Rattle.ground_size.proofs.signed.SignedCount.under_some.Goals as goal

pub returns : goal.returns
returns c = λ counts k p is h. record {
  positive = h.positive;
  negative = over counts k c.args.terms c.args.self.negative c.saturating_mul.result c.saturating_add.result
      (normal false p) is h.negative c.saturating_mul.ensures c.saturating_add.ensures;
}
