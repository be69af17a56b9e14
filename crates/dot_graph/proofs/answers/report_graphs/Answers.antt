use Rattle.std.proofs.Common.{◌+◌, ◌-◌, length, take, drop, ap, arith}
use Rattle.rml_report.specs.Reports.{CanRender}
use Rattle.dot_graph.specs.AnswerGraphs.{group_graph, group_graphs}
use Rattle.dot_graph.proofs.Pieces.{first_and_rest, known_behind, text_turn}
use Rattle.dot_graph.proofs.answers.report_graphs.Goals as goal

pub loop-rest-preserved : goal.loop-rest-preserved
loop-rest-preserved c =
    let m = c.args.checked.now in
    let xs = c.loop-rest.rest.now in
    let rest = take (length xs - 1) (drop 1 xs) in
    let n = c.loop-rest.number in
    let is = first_and_rest xs c.group-item.result c.in-len1-up.len_at_least c.group-item.is in
    record {
      can = known_behind (CanRender m) xs c.loop-rest.invariant.can;
      place = omega (arith, ap length is, c.loop-rest.invariant.place);
      text = text_turn (group_graphs n m xs) (group_graphs (n + 1) m rest) (group_graphs 1 m c.args.groups.now) (group_graph n m c.group-item.result.answer) c.loop-rest.out
          c.push_group.new.out (ap (group_graphs n m) is) c.push_group.ensures c.loop-rest.invariant.text;
    }
