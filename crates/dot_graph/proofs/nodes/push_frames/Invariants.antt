use Rattle.fol_sig.specs.Tuples.{join_below}
use Rattle.told_text.specs.Written.{Wrote}
use Rattle.dot_graph.specs.NodeText.{sort_frame}
use Rattle.dot_graph.proofs.nodes.push_frames.Given as goal

abbrev pub invariant-loop-sort : goal.invariant-loop-sort
invariant-loop-sort l =
    Wrote l.initial.out l.out (join_below l.sort (sort_frame l.letter l.model.names l.now l.other))
