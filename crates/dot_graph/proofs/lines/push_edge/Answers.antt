use Rattle.std.proofs.Common.{◌++◌, codes}
use Rattle.dot_graph.specs.EdgeText.{colour_text, edge_line}
use Rattle.dot_graph.specs.RowText.{node_of, label_of}
use Rattle.dot_graph.proofs.Pieces.{both_written}
use Rattle.dot_graph.proofs.lines.push_edge.Goals as goal

pub returns : goal.returns
unfolding edge_line
returns c =
    let out = c.args.out.now in
    let row = c.args.row.now in
    let one = codes "    " ++ node_of row.letter.now row.symbol row.at.now c.args.from in
    let two = one ++ codes " -> " in
    let three = two ++ node_of row.letter.now row.symbol row.at.now c.args.to in
    let four = three ++ codes " [" in
    let five = four ++ colour_text row.changed in
    let six = five ++ codes "label=<" in
    let seven = six ++ label_of row.names.now row.symbol c.args.label in
    let w1 =
    both_written (codes "    ") (node_of row.letter.now row.symbol row.at.now c.args.from) out c.push_str.new.self
    c.push_node.new.out c.push_str.ensures c.push_node.ensures in
    let w2 = both_written one (codes " -> ") out c.push_node.new.out c.push_str-2.new.self w1 c.push_str-2.ensures in
    let w3 =
    both_written two (node_of row.letter.now row.symbol row.at.now c.args.to) out c.push_str-2.new.self
    c.push_node-2.new.out w2 c.push_node-2.ensures in
    let w4 =
    both_written three (codes " [") out c.push_node-2.new.out c.push_str-3.new.self w3 c.push_str-3.ensures in
    let w5 =
    both_written four (colour_text row.changed) out c.push_str-3.new.self c.push_colour.new.out w4
    c.push_colour.ensures in
    let w6 =
    both_written five (codes "label=<") out c.push_colour.new.out c.push_str-4.new.self w5 c.push_str-4.ensures in
    let w7 =
    both_written six (label_of row.names.now row.symbol c.args.label) out c.push_str-4.new.self c.push_label.new.out w6
    c.push_label.ensures in
    both_written seven (codes ">];\n") out c.push_label.new.out c.push_str-5.new.self w7 c.push_str-5.ensures
