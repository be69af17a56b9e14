use Rattle.std.proofs.Common.{◌≡◌, ◌+◌, ◌++◌, length}
use Rattle.std.specs.Prelude.{IsTrue}
use Rattle.std.specs.List.{AllByRecursion}
use Rattle.rml_houdini.specs.HoudiniText.{CanRender}
use Rattle.dot_graph.specs.AnswerGraphs.{drop_graphs}
use Rattle.dot_graph.proofs.answers.drops_graphs.Given as goal

abbrev pub invariant-loop-rest : goal.invariant-loop-rest
invariant-loop-rest l = record {
  can : AllByRecursion (CanRender l.checked) l.rest;
  place : l.number + length l.rest ≡ length l.drops + 1;
  text : IsTrue l.out.whole → l.out.text ++ drop_graphs l.number l.checked l.rest ≡ drop_graphs 1 l.checked l.drops;
}

abbrev pub decreases-loop-rest : goal.decreases-loop-rest
decreases-loop-rest l = length l.rest
