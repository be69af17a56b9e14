use Rattle.std.proofs.Common.{◌∙◌, ap, arith}
use Rattle.fol_formula.specs.Counts.{saturated}
use Rattle.ground_size.specs.Conjoined.{forms_at}
use Rattle.ground_size.proofs.Conjoining.{nodes, nodes-split}
use Rattle.ground_size.proofs.parts.nodes_of_parts.Goals as goal

pub loop-part-preserved : goal.loop-part-preserved
loop-part-preserved c =
    let counts = c.args.counts.now in
    let split = nodes-split c.args.parts.now c.loop-part.part-index c.part-item.result counts c.loop-part-test.true in
    let added = c.nodes_of_part.ensures ∙ ap (λ part. saturated (nodes counts (forms_at part))) c.part-item.is in (
      omega (arith, c.saturating_add-nodes.ensures),
      omega (arith, split, added, c.saturating_add-nodes.ensures, c.loop-part.invariant.1),
    )
