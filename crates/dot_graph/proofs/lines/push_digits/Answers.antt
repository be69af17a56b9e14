use Rattle.std.proofs.Common.{◌++◌, get_or, ap, codes, decimal}
use Rattle.dot_graph.specs.EdgeText.{digits_text}
use Rattle.dot_graph.proofs.Pieces.{both_written, first-others, next_written}
use Rattle.dot_graph.proofs.lines.push_digits.Goals as goal

pub loop-rest-preserved : goal.loop-rest-preserved
unfolding digits_text
loop-rest-preserved c =
    let xs = c.loop-rest.rest.now in
    let x = decimal (get_or xs 0 0) in
    next_written digits_text (codes "_" ++ x) xs c.args.out.now c.loop-rest.out c.push_number.new.self
    (c.args.out.now.text ++ digits_text c.args.elements.now)
    (ap digits_text (first-others xs 0 c.in-len1-up.len_at_least))
    (both_written (codes "_") x c.loop-rest.out c.push_str.new.self c.push_number.new.self c.push_str.ensures
    c.push_number.ensures) c.loop-rest.invariant
