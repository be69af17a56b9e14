use Rattle.std.proofs.Common.{◌≡◌, ◌++◌}
use Rattle.fol_sig.specs.Symbols.{symbols}
use Rattle.rml_command.specs.Models.{FitsPath}
use Rattle.rml_report.specs.HavocText.{havocs_text}
use Rattle.rml_report.proofs.havocs.push_havocs.Given as goal

abbrev pub invariant-loop-primitive : goal.invariant-loop-primitive
invariant-loop-primitive l = record {
  fits : FitsPath (symbols l.checked.signature) l.primitive-iterator;
  text : l.out.items ++ havocs_text l.structure l.primitive-iterator l.left
      ≡ l.initial.out.items ++ havocs_text l.structure l.path l.havocs;
}
