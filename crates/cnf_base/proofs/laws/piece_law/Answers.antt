use Rattle.cnf_base.proofs.Pieces.{are_cut}
use Rattle.cnf_base.proofs.laws.piece_law.Goals as goal

pub returns : goal.returns
returns c = are_cut
