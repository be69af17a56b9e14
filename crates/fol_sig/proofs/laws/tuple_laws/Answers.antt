use Rattle.fol_sig.proofs.TuplePlaces.{are_numbered}
use Rattle.fol_sig.proofs.laws.tuple_laws.Goals as goal

pub returns : goal.returns
returns c = are_numbered
