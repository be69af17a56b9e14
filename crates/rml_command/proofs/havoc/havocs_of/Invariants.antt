use Rattle.std.proofs.Common.{◌≡◌, take}
use Rattle.rml_command.specs.Elements.{havocs_of}
use Rattle.rml_command.proofs.havoc.havocs_of.Given as goal

abbrev pub invariant-loop-element : goal.invariant-loop-element
invariant-loop-element l = l.havocs ≡ havocs_of (take l.element-index l.elements)
