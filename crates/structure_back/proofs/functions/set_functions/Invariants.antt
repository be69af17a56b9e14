use Rattle.std.proofs.Common.{◌≡◌}
use Rattle.fol_sig.specs.Symbols.{FitsStructure}
use Rattle.ground_terms.specs.Universe.{symbols_in, names_in}
use Rattle.structure_back.specs.Rows.{looked_up}
use Rattle.structure_back.proofs.Filling.{AreFilledTo}
use Rattle.structure_back.proofs.functions.set_functions.Given as goal

abbrev pub invariant-loop-f : goal.invariant-loop-f
invariant-loop-f l = record {
  fits : FitsStructure (symbols_in l.universe) l.structure;
  sizes : l.structure.sizes ≡ l.fn.structure.sizes;
  relations : l.structure.relations ≡ l.fn.structure.relations;
  filled : AreFilledTo (symbols_in l.universe) (names_in l.universe) (looked_up l.classes.numbers)
      (looked_up l.classes.members) l.structure l.f;
}
