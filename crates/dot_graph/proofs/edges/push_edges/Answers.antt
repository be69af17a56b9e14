use Rattle.std.proofs.Common.{subst}
use Rattle.rml_command.specs.declared.names.Names.{Names}
use Rattle.told_text.specs.Written.{Wrote}
use Rattle.dot_graph.specs.EdgeText.{edges_text}
use Rattle.dot_graph.proofs.edges.push_edges.Goals as goal

pub returns : goal.returns
returns c =
    subst (λ (names : Names). Wrote c.args.out.now c.push_all_cells.new.out
    (edges_text c.args.letter.now names c.args.now.now c.args.other.now)) c.names.ensures.value c.push_all_cells.ensures
