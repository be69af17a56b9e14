use Rattle.model_reasons.proofs.Idleness.{idle_carry_no_other}
use Rattle.model_reasons.proofs.laws.idle_law.Goals as goal

pub returns : goal.returns
returns c = idle_carry_no_other
