use Rattle.std.proofs.Common.{◌≡◌, take}
use Rattle.fol_sig.proofs.structure.copy_functions.Given as goal

abbrev pub invariant-loop-function : goal.invariant-loop-function
invariant-loop-function l = l.all.items ≡ take l.function-index l.functions
