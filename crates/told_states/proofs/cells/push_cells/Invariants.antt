use Rattle.std.proofs.Common.{◌≡◌, ◌++◌}
use Rattle.std.specs.Prelude.{IsTrue}
use Rattle.std.specs.List.{AllByRecursion, flat_map}
use Rattle.fol_sig.specs.Tables.{InRange}
use Rattle.fol_sig.specs.SymbolTables.{arguments_of}
use Rattle.told_states.specs.SymbolText.{cells_text}
use Rattle.told_states.proofs.cells.push_cells.Given as goal

abbrev pub invariant-loop-tuple : goal.invariant-loop-tuple
invariant-loop-tuple g l = record {
  in_range : AllByRecursion (InRange l.here.sizes (arguments_of l.here l.symbol)) l.tuple-iterator;
  text : IsTrue l.out.whole → IsTrue l.fn.out.whole × (l.out.text
      ++ flat_map (g.T.OfCells.text l.told l.here l.there l.symbol) l.tuple-iterator
      ≡ l.fn.out.text ++ cells_text l.here (g.T.OfCells.text l.told l.here l.there) l.symbol);
}
