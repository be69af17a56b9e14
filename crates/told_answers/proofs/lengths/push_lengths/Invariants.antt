use Rattle.std.proofs.Common.{◌≡◌, ◌+◌, ◌++◌, length}
use Rattle.std.specs.Prelude.{IsTrue}
use Rattle.std.specs.List.{AllByRecursion}
use Rattle.told_answers.specs.RunsText.{CanTell, all_broken, all_open}
use Rattle.told_answers.proofs.lengths.push_lengths.Given as goal

abbrev pub invariant-loop-rest : goal.invariant-loop-rest
invariant-loop-rest g l = record {
  can : AllByRecursion (CanTell l.checked) l.rest;
  place : l.actions + length l.rest ≡ length l.lengths;
  broken : IsTrue l.out.whole → IsTrue l.fn.out.whole × (l.out.text
      ++ all_broken l.checked (g.T.InText.told l.source) l.actions l.rest
      ≡ l.fn.out.text ++ all_broken l.checked (g.T.InText.told l.source) 0 l.lengths);
  left_open : IsTrue l.left.whole → IsTrue l.fn.left.whole
      × (l.left.text ++ all_open l.actions l.rest ≡ l.fn.left.text ++ all_open 0 l.lengths);
}

abbrev pub decreases-loop-rest : goal.decreases-loop-rest
decreases-loop-rest g l = length l.rest
