use Rattle.std.proofs.Common.{◌++◌, codes}
use Rattle.dot_graph.specs.GraphText.{graph_head, side_text, step_graph}
use Rattle.dot_graph.proofs.Pieces.{both_written}
use Rattle.dot_graph.proofs.graphs.push_step_graph.Goals as goal

pub returns : goal.returns
unfolding step_graph
returns c =
    let out = c.args.out.now in
    let names = c.args.model.now.names in
    let head = graph_head (codes "step") c.args.number in
    let label = head ++ codes "  label=<" in
    let title = label ++ c.args.title.now in
    let place = title ++ codes ">;\n  labelloc=t;\n" in
    let before = side_text (codes "b") (codes "before") names c.args.before.now c.args.after.now in
    let after = side_text (codes "a") (codes "after") names c.args.after.now c.args.before.now in
    let labelled =
    both_written head (codes "  label=<") out c.push_graph_head.new.out c.push_str.new.self c.push_graph_head.ensures
    c.push_str.ensures in
    let titled =
    both_written label c.args.title.now out c.push_str.new.self c.push_bytes.new.self labelled c.push_bytes.ensures in
    let placed =
    both_written title (codes ">;\n  labelloc=t;\n") out c.push_bytes.new.self c.push_str-2.new.self titled
    c.push_str-2.ensures in
    let one =
    both_written place before out c.push_str-2.new.self c.push_side.new.out placed
    (rw c.as_bytes.ensures.value at c.push_side.ensures) in
    let two =
    both_written (place ++ before) after out c.push_side.new.out c.push_side-2.new.out one
    (rw c.as_bytes-2.ensures.value at c.push_side-2.ensures) in
    both_written (place ++ before ++ after) (codes "}\n") out c.push_side-2.new.out c.push_str-3.new.self two
    c.push_str-3.ensures
