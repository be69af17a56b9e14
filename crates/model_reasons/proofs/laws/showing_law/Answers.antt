use Rattle.model_reasons.proofs.Showing.{reasons_are_shown}
use Rattle.model_reasons.proofs.laws.showing_law.Goals as goal

pub returns : goal.returns
returns c = reasons_are_shown
