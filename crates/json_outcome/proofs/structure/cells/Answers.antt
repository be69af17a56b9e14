use Rattle.std.proofs.Common.{List, ℕ, ap, subst}
use Rattle.std.specs.List.{AllByRecursion, flat_map}
use Rattle.fol_sig.specs.Tables.{InRange}
use Rattle.fol_sig.specs.SymbolTables.{arguments_of}
use Rattle.json_values.specs.Values.{IsListedBy}
use Rattle.json_outcome.specs.StructureData.{cell_data, cells_data}
use Rattle.json_outcome.proofs.Lists.{listed_turn}
use Rattle.json_outcome.proofs.structure.cells.Goals as goal

pub loop-tuple-preserved : goal.loop-tuple-preserved
loop-tuple-preserved c =
    let s = c.args.structure.now in
    let q = c.args.symbol in
    let list = c.loop-tuple.list in
    record {
      in_range = (subst (AllByRecursion (InRange s.sizes (arguments_of s q))) c.in-Some.ensures.steps
          c.loop-tuple.invariant.in_range).1;
      list = listed_turn (flat_map (cell_data s q) c.loop-tuple.tuple-iterator) (cell_data s q c.in-Some.tuple)
          (flat_map (cell_data s q) c.next.new.self) (cells_data s q) list c.push_cell.new.list
          (ap (flat_map (cell_data s q)) c.in-Some.ensures.steps)
          (subst (λ (xs : List ℕ). IsListedBy list (cell_data s q xs) c.push_cell.new.list) c.as_slice.ensures.value
          c.push_cell.ensures) c.loop-tuple.invariant.list;
    }
