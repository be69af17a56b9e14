use Rattle.std.proofs.Common.{◌++◌, codes, decimal}
use Rattle.rml_report.specs.Words.{name_at, labelled}
use Rattle.dot_graph.specs.NodeText.{frame_head}
use Rattle.dot_graph.proofs.Pieces.{both_written}
use Rattle.dot_graph.proofs.nodes.push_frame_head.Goals as goal

pub returns : goal.returns
unfolding frame_head
returns c =
    let out = c.args.out.now in
    let frame = codes "    subgraph cluster_" in
    let letter = c.args.letter.now in
    let title = labelled (codes " {\n      label=<") (name_at c.args.names.now.sorts c.args.sort) (codes ">;\n") in
    let two =
    both_written frame letter out c.push_str.new.self c.push_str-2.new.self c.push_str.ensures c.push_str-2.ensures in
    let three =
    both_written (frame ++ letter) (decimal c.args.sort) out c.push_str-2.new.self c.push_number.new.self two
    c.push_number.ensures in
    both_written (frame ++ letter ++ decimal c.args.sort) title out c.push_number.new.self c.push_labelled.new.out three
    (rw c.as_slice.ensures at c.push_labelled.ensures)
