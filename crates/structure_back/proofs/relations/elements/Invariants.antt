use Rattle.fol_sig.specs.Tables.{numbers}
use Rattle.structure_back.specs.Rows.{looked_up}
use Rattle.structure_back.proofs.Picking.{ArePicked}
use Rattle.structure_back.proofs.relations.elements.Given as goal

abbrev pub invariant-loop-i : goal.invariant-loop-i
invariant-loop-i l = ArePicked (looked_up l.rows) (numbers l.sorts) l.places l.tuple l.i
