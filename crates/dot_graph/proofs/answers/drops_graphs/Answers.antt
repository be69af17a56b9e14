use Rattle.std.proofs.Common.{◌+◌, ◌-◌, length, take, drop, ap, arith}
use Rattle.rml_houdini.specs.HoudiniText.{CanRender}
use Rattle.dot_graph.specs.GraphText.{counterexample_graph}
use Rattle.dot_graph.specs.AnswerGraphs.{drop_graphs}
use Rattle.dot_graph.proofs.Pieces.{first_and_rest, known_behind, text_turn}
use Rattle.dot_graph.proofs.answers.drops_graphs.Goals as goal

pub loop-rest-preserved : goal.loop-rest-preserved
loop-rest-preserved c =
    let m = c.args.checked.now in
    let xs = c.loop-rest.rest.now in
    let rest = take (length xs - 1) (drop 1 xs) in
    let n = c.loop-rest.number in
    let is = first_and_rest xs c.drop-item.result c.in-len1-up.len_at_least c.drop-item.is in
    record {
      can = known_behind (CanRender m) xs c.loop-rest.invariant.can;
      place = omega (arith, ap length is, c.loop-rest.invariant.place);
      text = text_turn (drop_graphs n m xs) (drop_graphs (n + 1) m rest) (drop_graphs 1 m c.args.drops.now) (counterexample_graph n m c.drop-item.result.shown) c.loop-rest.out
          c.push_counterexample_graph.new.out (ap (drop_graphs n m) is) c.push_counterexample_graph.ensures c.loop-rest.invariant.text;
    }
