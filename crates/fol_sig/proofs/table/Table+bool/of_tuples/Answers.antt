use Rattle.std.proofs.Common.{ap, ◌∙◌, take, arith, length}
use Rattle.fol_sig.specs.Tables.{RelationTable}
use Rattle.fol_sig.proofs.TupleSets.{no-tuples, table-turn, table-full, cells-full}
use Rattle.fol_sig.proofs.table.«Table+bool».of_tuples.Goals as goal

pub loop-tuple-init : goal.loop-tuple-init
loop-tuple-init c = (
  ap (λ (t : RelationTable). t.sorts) c.in_ok-table.ensures,
  ap (λ (t : RelationTable). t.cells) c.in_ok-table.ensures ∙ no-tuples c.args.sizes.now c.args.sorts.now,
)

pub set_cell-requires-clause-full : goal.set_cell-requires-clause-full
set_cell-requires-clause-full c =
    table-full c.args.sizes.now c.args.sorts.now (take c.loop-tuple.tuple-index c.args.tuples.now) c.loop-tuple.table
    c.loop-tuple.invariant.0 c.loop-tuple.invariant.1

pub loop-tuple-preserved : goal.loop-tuple-preserved
loop-tuple-preserved c =
    table-turn c.args.sizes.now c.args.sorts.now c.args.tuples.now c.loop-tuple.tuple-index c.tuple-item.result
    c.as_slice.result.now
    c.loop-tuple.table c.set_cell.new.self c.requires.in_range (omega (arith, c.loop-tuple-test.true))
    c.loop-tuple.invariant.0 c.loop-tuple.invariant.1 (c.as_slice.ensures.value ∙ c.tuple-item.is) c.set_cell.ensures

pub returns-clause-full : goal.returns-clause-full
returns-clause-full c =
    ap length c.loop-tuple.invariant.1 ∙ cells-full c.args.sizes.now c.args.sorts.now _
