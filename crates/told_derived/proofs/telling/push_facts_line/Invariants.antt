use Rattle.std.proofs.Common.{◌≡◌, ◌++◌}
use Rattle.std.specs.Prelude.{IsTrue}
use Rattle.std.specs.List.{AllByRecursion, flat_map}
use Rattle.fol_sig.specs.Tables.{InRange}
use Rattle.fol_sig.specs.Tuples.{tuples}
use Rattle.told_derived.specs.DerivedText.{fact_text}
use Rattle.told_derived.proofs.telling.push_facts_line.Given as goal

abbrev pub invariant-loop-tuple : goal.invariant-loop-tuple
invariant-loop-tuple l = record {
  in_range : AllByRecursion (InRange l.structure.sizes l.derived.sorts) l.tuple-iterator;
  text : IsTrue l.pieces.whole → IsTrue l.initial.pieces.whole × (l.pieces.text
      ++ flat_map (fact_text l.labels l.structure l.derived) l.tuple-iterator
      ≡ l.initial.pieces.text ++ flat_map (fact_text l.labels l.structure l.derived) (tuples l.structure.sizes l.derived.sorts));
}
