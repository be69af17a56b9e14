use Rattle.std.proofs.Common.{◌≡◌, ◌++◌, IfSome}
use Rattle.std.specs.List.{AllByRecursion, flat_map}
use Rattle.fol_sig.specs.Tables.{InRange}
use Rattle.fol_sig.specs.SymbolTables.{arguments_of}
use Rattle.json_outcome.specs.StructureData.{cell_data, cells_data}
use Rattle.json_outcome.proofs.structure.cells.Given as goal

abbrev pub invariant-loop-tuple : goal.invariant-loop-tuple
invariant-loop-tuple l = record {
  in_range : AllByRecursion (InRange l.structure.sizes (arguments_of l.structure l.symbol)) l.tuple-iterator;
  list : IfSome l.list (λ ds. ds ++ flat_map (cell_data l.structure l.symbol) l.tuple-iterator
      ≡ cells_data l.structure l.symbol);
}
