use Rattle.std.proofs.Common.{◌≡◌, map, take}
use Rattle.fol_sig.specs.Symbols.{symbols}
use Rattle.fol_sig.specs.Growing.{grown_by_relations}
use Rattle.fol_sig.proofs.growing.with_fresh_relations.Given as goal

abbrev pub invariant-loop-rel : goal.invariant-loop-rel
invariant-loop-rel l =
    l.more ≡ grown_by_relations l.signature (map (λ r. (symbols l.signature).sorts_of r.0) (take l.rel-index l.like))
