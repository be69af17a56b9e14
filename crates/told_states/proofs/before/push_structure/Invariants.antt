use Rattle.std.proofs.Common.{◌≡◌, ◌++◌, length}
use Rattle.std.specs.Prelude.{IsTrue}
use Rattle.std.specs.List.{AllByRecursion, flat_map}
use Rattle.fol_sig.specs.SymbolTables.{HasSymbol}
use Rattle.told_states.specs.SymbolText.{symbols_of}
use Rattle.told_states.specs.Labels.{labels_of}
use Rattle.told_states.specs.BeforeText.{symbol_line, variable_text}
use Rattle.told_states.proofs.before.push_structure.Given as goal

abbrev pub invariant-loop-rest : goal.invariant-loop-rest
invariant-loop-rest l = record {
  known : AllByRecursion (HasSymbol l.structure) l.rest;
  lines : IsTrue l.out.whole → IsTrue l.fn.out.whole × (l.out.text
      ++ flat_map (symbol_line (labels_of l.model l.structure) l.structure) l.rest
      ≡ l.fn.out.text ++ flat_map (symbol_line (labels_of l.model l.structure) l.structure) (symbols_of l.structure));
  variables : IsTrue l.variables.whole → l.variables.text
      ++ flat_map (variable_text (labels_of l.model l.structure) l.structure) l.rest
      ≡ flat_map (variable_text (labels_of l.model l.structure) l.structure) (symbols_of l.structure);
}

abbrev pub decreases-loop-rest : goal.decreases-loop-rest
decreases-loop-rest l = length l.rest
