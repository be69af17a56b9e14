use Rattle.dot_graph.specs.NodeText.{node_line}
use Rattle.dot_graph.proofs.Pieces.{one_written}
use Rattle.dot_graph.proofs.nodes.push_nodes.Goals as goal

pub loop-element-preserved : goal.loop-element-preserved
loop-element-preserved c =
    one_written c.loop-element.element
    (node_line c.args.letter.now c.args.names.now c.args.now.now c.args.other.now c.args.sort.0) _ c.loop-element.out _
    c.loop-element.invariant c.push_node.ensures
