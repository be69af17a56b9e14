use Rattle.std.proofs.Common.{◌≡◌, ◌+◌, ◌<◌, ◌^◌, true, drop}
use Rattle.fol_formula.specs.Syntax.{forms_of}
use Rattle.fol_formula.specs.Counts.{saturated}
use Rattle.fol_nnf.specs.Normal.{normals}
use Rattle.ground_size.specs.Sizes.{all_instance_nodes}
use Rattle.ground_size.proofs.parts.nodes_of_each.Given as goal

abbrev pub invariant-loop-sentence : goal.invariant-loop-sentence
invariant-loop-sentence l =
    (l.nodes < 2 ^ 64)
    × (saturated
    (l.nodes + all_instance_nodes l.counts (normals true (forms_of (drop l.sentence-index l.sentences))))
    ≡ saturated (all_instance_nodes l.counts (normals true (forms_of l.sentences))))
