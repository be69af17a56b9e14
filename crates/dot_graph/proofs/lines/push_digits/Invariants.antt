use Rattle.std.proofs.Common.{◌≡◌, ◌++◌, length}
use Rattle.std.specs.Prelude.{IsTrue}
use Rattle.dot_graph.specs.EdgeText.{digits_text}
use Rattle.dot_graph.proofs.lines.push_digits.Given as goal

abbrev pub invariant-loop-rest : goal.invariant-loop-rest
invariant-loop-rest l =
    IsTrue l.out.whole → IsTrue l.initial.out.whole
    × (l.out.text ++ digits_text l.rest ≡ l.initial.out.text ++ digits_text l.elements)

abbrev pub decreases-loop-rest : goal.decreases-loop-rest
decreases-loop-rest l = length l.rest
