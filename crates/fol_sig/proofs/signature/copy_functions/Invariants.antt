use Rattle.std.proofs.Common.{◌≡◌, take}
use Rattle.fol_sig.proofs.signature.copy_functions.Given as goal

abbrev pub invariant-loop-from : goal.invariant-loop-from
invariant-loop-from l = l.all.items ≡ take l.from-index l.functions
