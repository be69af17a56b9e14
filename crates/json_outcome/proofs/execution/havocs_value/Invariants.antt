use Rattle.std.proofs.Common.{◌≡◌, ◌++◌, IfSome}
use Rattle.fol_sig.specs.Symbols.{symbols}
use Rattle.rml_command.specs.Models.{FitsPath}
use Rattle.json_outcome.specs.ExecutionData.{havocs_data}
use Rattle.json_outcome.proofs.execution.havocs_value.Given as goal

abbrev pub invariant-loop-primitive : goal.invariant-loop-primitive
invariant-loop-primitive l = record {
  fits : FitsPath (symbols l.checked.signature) l.primitive-iterator;
  list : IfSome l.list (λ ds. ds ++ havocs_data l.checked.names l.structure l.primitive-iterator l.left
      ≡ havocs_data l.checked.names l.structure l.path l.havocs);
}
