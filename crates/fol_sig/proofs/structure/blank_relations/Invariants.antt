use Rattle.std.proofs.Common.{◌≡◌, map, take}
use Rattle.fol_sig.specs.Tables.{blank_relation}
use Rattle.fol_sig.proofs.structure.blank_relations.Given as goal

abbrev pub invariant-loop-sorts : goal.invariant-loop-sorts
invariant-loop-sorts l = l.all.items ≡ map (blank_relation l.sizes) (take l.sorts-index l.declared)
