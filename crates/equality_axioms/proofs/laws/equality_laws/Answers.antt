use Rattle.equality_axioms.proofs.Equalities.{axioms_give_equality}
use Rattle.equality_axioms.proofs.laws.equality_laws.Goals as goal

pub returns : goal.returns
returns c = axioms_give_equality
