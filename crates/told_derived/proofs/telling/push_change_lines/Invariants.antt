use Rattle.std.proofs.Common.{◌≡◌, ◌++◌}
use Rattle.std.specs.Prelude.{IsTrue}
use Rattle.std.specs.List.{AllByRecursion, flat_map}
use Rattle.fol_sig.specs.Tables.{InRange}
use Rattle.fol_sig.specs.Tuples.{tuples}
use Rattle.told_derived.specs.DerivedText.{change_text}
use Rattle.told_derived.proofs.telling.push_change_lines.Given as goal

abbrev pub invariant-loop-tuple : goal.invariant-loop-tuple
invariant-loop-tuple l = record {
  in_range : AllByRecursion (InRange l.before.sizes l.derived.sorts) l.tuple-iterator;
  text : IsTrue l.out.whole → IsTrue l.fn.out.whole × (l.out.text
      ++ flat_map (change_text l.labels l.before l.after l.derived) l.tuple-iterator
      ≡ l.fn.out.text ++ flat_map (change_text l.labels l.before l.after l.derived) (tuples l.before.sizes l.derived.sorts));
}
