use Rattle.std.proofs.Common.{◌≡◌, ◌+◌, ◌<◌, ◌^◌, drop, true, false}
use Rattle.fol_formula.specs.View.{forms, terms}
use Rattle.fol_formula.specs.Counts.{saturated}
use Rattle.fol_nnf.specs.Normal.{normals, leaves_of_terms}
use Rattle.ground_size.specs.Sizes.{all_instance_nodes}
use Rattle.ground_size.specs.Leaves.{AreLeavesOf}
use Rattle.ground_size.proofs.sizes.+sizes.Given as goal

abbrev pub invariant-sizes_of_all-loop-p : goal.invariant-sizes_of_all-loop-p
invariant-sizes_of_all-loop-p l = record {
  fits : l.all.positive < 2 ^ 64;
  fits_too : l.all.negative < 2 ^ 64;
  positive : saturated
      (l.all.positive + all_instance_nodes l.counts (normals true (forms (drop l.p-index l.formulas))))
      ≡ saturated (all_instance_nodes l.counts (normals true (forms l.formulas)));
  negative : saturated
      (l.all.negative + all_instance_nodes l.counts (normals false (forms (drop l.p-index l.formulas))))
      ≡ saturated (all_instance_nodes l.counts (normals false (forms l.formulas)));
}

abbrev pub invariant-leaves_of_terms-loop-i : goal.invariant-leaves_of_terms-loop-i
invariant-leaves_of_terms-loop-i l = AreLeavesOf l.counts (leaves_of_terms (terms (drop l.i l.terms))) l.row
