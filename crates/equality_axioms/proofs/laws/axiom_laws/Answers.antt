use Rattle.equality_axioms.proofs.Truths.{axioms_are_true, structures_satisfy}
use Rattle.equality_axioms.proofs.laws.axiom_laws.Goals as goal

pub returns-clause-realised : goal.returns-clause-realised
returns-clause-realised c = axioms_are_true c.range_laws.ensures.along c.place_laws.ensures.placed

pub returns-clause-structures : goal.returns-clause-structures
returns-clause-structures c =
    structures_satisfy (axioms_are_true c.range_laws.ensures.along c.place_laws.ensures.placed) c.value_laws.ensures
