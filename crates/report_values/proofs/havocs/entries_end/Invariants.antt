use Rattle.std.proofs.Common.{◌≡◌, []}
use Rattle.fol_sig.specs.Symbols.{symbols}
use Rattle.rml_command.specs.Models.{FitsPath}
use Rattle.report_values.specs.HavocReading.{entries_end}
use Rattle.report_values.proofs.havocs.entries_end.Given as goal

abbrev pub invariant-loop-primitive : goal.invariant-loop-primitive
invariant-loop-primitive l = record {
  fits : FitsPath (symbols l.checked.signature) l.primitive-iterator;
  reads : entries_end l.structure l.primitive-iterator l.entries l.scan
      ≡ entries_end l.structure l.path [] l.fn.first;
}
