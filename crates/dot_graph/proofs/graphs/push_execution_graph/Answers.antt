use Rattle.std.proofs.Common.{sym}
use Rattle.fol_sig.specs.Symbols.{symbols}
use Rattle.dot_graph.proofs.graphs.push_execution_graph.Goals as goal

pub push_step_graph-requires-clause-sizes : goal.push_step_graph-requires-clause-sizes
push_step_graph-requires-clause-sizes c =
    let followed = rw c.in-Ok-Ended.field-0-is at c.in-Ok-Ended.ensures in
    (c.end_law.ensures c.args.checked.now.axioms c.path-path.result c.args.shown.now.trace.havoc
    (symbols c.args.checked.now.signature) c.args.shown.now.structure c.in-Ok-Ended.end c.requires.structure
    followed.fits (sym followed.outcome)).sizes
