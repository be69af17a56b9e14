-- What is drawn so far, and behind it the pictures of the rest.
use Rattle.std.proofs.Common.{◌≡◌, ◌++◌, length}
use Rattle.std.specs.List.{AllByRecursion, flat_map}
use Rattle.bounded_text.specs.BoundedText.{CanRender}
use Rattle.view_run.specs.Bmc.{length_graphs}
use Rattle.view_run.proofs.bmc.lengths_graphs.Given as goal

abbrev pub invariant-loop-rest : goal.invariant-loop-rest
invariant-loop-rest l = record {
  can : AllByRecursion (CanRender l.model) l.rest;
  text : l.out.items ++ flat_map (length_graphs l.model) l.rest ≡ flat_map (length_graphs l.model) l.lengths;
}

abbrev pub decreases-loop-rest : goal.decreases-loop-rest
decreases-loop-rest l = length l.rest
