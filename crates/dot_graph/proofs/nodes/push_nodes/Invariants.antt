use Rattle.fol_sig.specs.Tuples.{join_below}
use Rattle.told_text.specs.Written.{Wrote}
use Rattle.dot_graph.specs.NodeText.{node_line}
use Rattle.dot_graph.proofs.nodes.push_nodes.Given as goal

abbrev pub invariant-loop-element : goal.invariant-loop-element
invariant-loop-element l =
    Wrote l.initial.out l.out (join_below l.element (node_line l.letter l.names l.now l.other l.sort.0))
