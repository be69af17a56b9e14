use Rattle.fol_sig.proofs.FirstCycles.{cycle_has_first}
use Rattle.fol_sig.proofs.laws.cycle_law.Goals as goal

pub returns : goal.returns
returns c = cycle_has_first
