use Rattle.std.proofs.Common.{◌≡◌, ◌+◌, ◌<◌, ◌^◌, true, drop}
use Rattle.fol_formula.specs.Syntax.{forms_of}
use Rattle.fol_formula.specs.Counts.{saturated}
use Rattle.fol_nnf.specs.Normal.{normals}
use Rattle.ground_size.specs.Conjoined.{parts_of}
use Rattle.ground_size.specs.Sizes.{all_instance_nodes}
use Rattle.ground_size.proofs.parts.nodes_of_parts.Given as goal

abbrev pub invariant-loop-part : goal.invariant-loop-part
invariant-loop-part l =
    (l.nodes < 2 ^ 64)
    × (saturated
    (l.nodes + all_instance_nodes l.counts (normals true (forms_of (parts_of (drop l.part-index l.parts)))))
    ≡ saturated (all_instance_nodes l.counts (normals true (forms_of (parts_of l.parts)))))
