use Rattle.std.proofs.Common.{◌≡◌}
use Rattle.fol_sig.specs.Symbols.{FitsStructure, symbols}
use Rattle.rml_command.specs.Models.{FitsPath}
use Rattle.rml_command.specs.Outcomes.{follow_path}
use Rattle.rml_exec.proofs.following.follow.Given as goal

abbrev pub invariant-loop-primitive : goal.invariant-loop-primitive
invariant-loop-primitive l = record {
  fits : FitsPath (symbols l.checked.signature) l.primitive-iterator;
  structure : FitsStructure (symbols l.checked.signature) l.now;
  same : follow_path l.checked.axioms l.primitive-iterator l.havocs l.now
      ≡ follow_path l.checked.axioms l.path l.trace.havoc l.fn.structure;
}
