use Rattle.std.proofs.Common.{[], subst, sym}
use Rattle.fol_sig.specs.SymbolTables.{IsCell}
use Rattle.rml_report.specs.TableText.{EachTuple}
use Rattle.rml_report.proofs.Cells.{each_cell}
use Rattle.rml_report.proofs.structures.push_symbol_line.Goals as goal

pub push_values-requires : goal.push_values-requires
push_values-requires c =
    subst (λ ks. EachTuple c.args.structure.now.sizes (IsCell c.args.structure.now c.args.symbol) ks [])
    (sym c.arguments-sorts.ensures)
    (each_cell c.args.structure.now c.args.symbol c.requires.whole c.requires.known)
