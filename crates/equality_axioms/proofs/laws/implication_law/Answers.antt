use Rattle.equality_axioms.proofs.Implications.{axioms_are_implications}
use Rattle.equality_axioms.proofs.laws.implication_law.Goals as goal

pub returns : goal.returns
returns c =
    axioms_are_implications c.atom_laws.ensures.reflexive c.range_laws.ensures.along c.place_laws.ensures.placed
