use Rattle.std.proofs.Common.{◌≡◌, take}
use Rattle.rml_command.proofs.havoc.copy_havocs.Given as goal

abbrev pub invariant-loop-havoc : goal.invariant-loop-havoc
invariant-loop-havoc l = l.copied ≡ take l.havoc-index l.havocs
