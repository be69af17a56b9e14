use Rattle.std.proofs.Common.{◌≡◌, ◌++◌}
use Rattle.std.specs.Prelude.{IsTrue}
use Rattle.fol_sig.specs.Symbols.{symbols}
use Rattle.rml_command.specs.Models.{FitsPath}
use Rattle.told_states.specs.Labels.{labels_of}
use Rattle.told_report.specs.ExecutionText.{havocs_text}
use Rattle.told_report.proofs.execution.push_havocs.Given as goal

abbrev pub invariant-loop-primitive : goal.invariant-loop-primitive
invariant-loop-primitive l = record {
  fits : FitsPath (symbols l.checked.signature) l.primitive-iterator;
  text : IsTrue l.out.whole → IsTrue l.initial.out.whole × (l.out.text
      ++ havocs_text (labels_of l.checked l.structure) l.structure l.primitive-iterator l.left
      ≡ l.initial.out.text ++ havocs_text (labels_of l.checked l.structure) l.structure l.path l.havocs);
}
