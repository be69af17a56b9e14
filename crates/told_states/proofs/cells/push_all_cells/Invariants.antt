use Rattle.std.proofs.Common.{◌≡◌, ◌++◌, length}
use Rattle.std.specs.Prelude.{IsTrue}
use Rattle.std.specs.List.{AllByRecursion, flat_map}
use Rattle.fol_sig.specs.SymbolTables.{HasSymbol}
use Rattle.told_states.specs.SymbolText.{symbols_of, cells_text}
use Rattle.told_states.proofs.cells.push_all_cells.Given as goal

abbrev pub invariant-loop-rest : goal.invariant-loop-rest
invariant-loop-rest g l = record {
  known : AllByRecursion (HasSymbol l.here) l.rest;
  text : IsTrue l.out.whole → IsTrue l.fn.out.whole × (l.out.text
      ++ flat_map (cells_text l.here (g.T.OfCells.text l.told l.here l.there)) l.rest
      ≡ l.fn.out.text ++ flat_map (cells_text l.here (g.T.OfCells.text l.told l.here l.there)) (symbols_of l.here));
}

abbrev pub decreases-loop-rest : goal.decreases-loop-rest
decreases-loop-rest g l = length l.rest
