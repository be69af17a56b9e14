use Rattle.std.proofs.Common.{◌≡◌, ◌+◌, ◌++◌, length}
use Rattle.std.specs.Prelude.{IsTrue}
use Rattle.std.specs.List.{AllByRecursion}
use Rattle.fol_sig.specs.Symbols.{symbols}
use Rattle.rml_bmc.specs.Shown.{EndFits}
use Rattle.dot_graph.specs.AnswerGraphs.{part_graphs}
use Rattle.dot_graph.proofs.answers.push_ends.Given as goal

abbrev pub invariant-loop-rest : goal.invariant-loop-rest
invariant-loop-rest l = record {
  ends : AllByRecursion (λ part. EndFits (symbols l.checked.signature) part.end) l.rest;
  place : l.number + length l.rest ≡ length l.parts + 1;
  text : IsTrue l.out.whole → IsTrue l.initial.out.whole
      × (l.out.text ++ part_graphs l.number l.checked l.rest
      ≡ l.initial.out.text ++ part_graphs 1 l.checked l.parts);
}

abbrev pub decreases-loop-rest : goal.decreases-loop-rest
decreases-loop-rest l = length l.rest
