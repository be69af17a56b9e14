use Rattle.std.proofs.Common.{◌≡◌, drop}
use Rattle.fol_sig.specs.Symbols.{FitsStructure}
use Rattle.ground_terms.specs.Terms.{term_counts}
use Rattle.ground_terms.specs.Same.{holds_in}
use Rattle.ground_terms.specs.Universe.{symbols_in}
use Rattle.structure_back.specs.Rows.{looked_up}
use Rattle.structure_back.proofs.Setting.{AreSetTo}
use Rattle.structure_back.proofs.relations.set_relations.Given as goal

abbrev pub invariant-loop-atom : goal.invariant-loop-atom
invariant-loop-atom l = record {
  fits : FitsStructure (symbols_in l.universe) l.structure;
  sizes : l.structure.sizes ≡ l.classes.sizes.items;
  set : AreSetTo (symbols_in l.universe) (term_counts l.universe.terms.now) (holds_in l.assignment)
      (looked_up l.classes.numbers)
      (drop l.atom-index l.atom-items) l.structure;
}
