use Rattle.std.proofs.Common.{◌≡◌, map, take}
use Rattle.fol_sig.specs.Tables.{blank_function}
use Rattle.fol_sig.proofs.structure.blank_functions.Given as goal

abbrev pub invariant-loop-sorts : goal.invariant-loop-sorts
invariant-loop-sorts l = l.all.items ≡ map (λ f. blank_function l.sizes f.0 f.1.0) (take l.sorts-index l.declared)
