use Rattle.std.proofs.Common.{◌≡◌, take}
use Rattle.rml_command.proofs.havoc.copy_tuples.Given as goal

abbrev pub invariant-loop-tuple : goal.invariant-loop-tuple
invariant-loop-tuple l = l.copied ≡ take l.tuple-index l.tuples
