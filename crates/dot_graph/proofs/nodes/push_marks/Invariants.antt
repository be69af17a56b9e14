use Rattle.std.proofs.Common.{◌≡◌, ◌++◌, length}
use Rattle.std.specs.Prelude.{IsTrue}
use Rattle.std.specs.List.{AllByRecursion, flat_map}
use Rattle.fol_sig.specs.SymbolTables.{HasSymbol}
use Rattle.dot_graph.specs.NodeText.{symbol_mark}
use Rattle.dot_graph.proofs.nodes.push_marks.Given as goal

abbrev pub invariant-loop-rest : goal.invariant-loop-rest
invariant-loop-rest l = record {
  known : AllByRecursion (HasSymbol l.now) l.rest;
  text : IsTrue l.out.whole → IsTrue l.initial.out.whole
      × (l.out.text ++ flat_map (symbol_mark l.names l.now l.other l.sort.0 l.element) l.rest
      ≡ l.initial.out.text ++ flat_map (symbol_mark l.names l.now l.other l.sort.0 l.element) l.symbols);
}

abbrev pub decreases-loop-rest : goal.decreases-loop-rest
decreases-loop-rest l = length l.rest
