use Rattle.std.proofs.Common.{take}
use Rattle.fol_pool.specs.Trees.{Grows}
use Rattle.fol_pool.specs.Rows.{AreForms}
use Rattle.pool_wp.proofs.model_nodes.take_each.Given as goal

abbrev pub invariant-loop-sentence : goal.invariant-loop-sentence
invariant-loop-sentence l = record {
  grows : Grows l.fn.pool l.pool;
  stand : AreForms l.pool l.nodes.items (take l.sentence-index l.sentences);
}
