use Rattle.obligation_decide.proofs.Conjoined.{judged}
use Rattle.obligation_decide.proofs.laws.axioms_law.Goals as goal

pub returns : goal.returns
returns c = judged c.exactness-2.ensures.truth c.exactness-2.ensures.fits c.exactness.ensures.models
