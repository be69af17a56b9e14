use Rattle.std.proofs.Common.{◌≡◌, take}
use Rattle.fol_sig.proofs.signature.copy_relations.Given as goal

abbrev pub invariant-loop-sorts : goal.invariant-loop-sorts
invariant-loop-sorts l = l.all.items ≡ take l.sorts-index l.relations
