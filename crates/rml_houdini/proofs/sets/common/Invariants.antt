use Rattle.rml_command.specs.InductiveSets.{IsWithin}
use Rattle.rml_houdini.proofs.sets.common.Given as goal

abbrev pub invariant-loop-number : goal.invariant-loop-number
invariant-loop-number l = IsWithin l.both.items l.others
