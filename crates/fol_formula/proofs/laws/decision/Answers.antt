use Rattle.fol_formula.proofs.Decisions.{fragments_are_decided}
use Rattle.fol_formula.proofs.laws.decision.Goals as goal

pub returns : goal.returns
returns c = fragments_are_decided
