use Rattle.fol_sig.proofs.Cycles.{order_has_no_cycle, first_cycle_is_one}
use Rattle.fol_sig.proofs.laws.strata_laws.Goals as goal

pub returns : goal.returns
returns c = record { acyclic = order_has_no_cycle; one = first_cycle_is_one }
