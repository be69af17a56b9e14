use Rattle.std.proofs.Common.{drop}
use Rattle.rml_command.specs.InductiveSets.{IsWithin}
use Rattle.rml_houdini.proofs.sets.are_within.Given as goal

abbrev pub invariant-loop-number : goal.invariant-loop-number
invariant-loop-number l = IsWithin (drop l.number-index l.numbers) l.others → IsWithin l.numbers l.others
