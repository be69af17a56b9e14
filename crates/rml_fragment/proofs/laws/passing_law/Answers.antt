use Rattle.rml_fragment.proofs.Exact.{passed}
use Rattle.rml_fragment.proofs.laws.passing_law.Goals as goal

pub returns : goal.returns
returns c = passed c.cycle_law.ensures c.decision.ensures
