use Rattle.fol_sig.specs.Symbols.{symbols}
use Rattle.rml_command.specs.Models.{FitsPath}
use Rattle.report_read.proofs.tables.cells_along.Given as goal

abbrev pub invariant-loop-primitive : goal.invariant-loop-primitive
invariant-loop-primitive l = FitsPath (symbols l.checked.signature) l.primitive-iterator
