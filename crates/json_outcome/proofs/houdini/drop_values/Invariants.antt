use Rattle.std.proofs.Common.{◌≡◌, ◌++◌, length, IfSome}
use Rattle.std.specs.List.{AllByRecursion}
use Rattle.rml_houdini.specs.HoudiniText.{CanRender}
use Rattle.json_outcome.specs.HoudiniData.{drops_data}
use Rattle.json_outcome.proofs.houdini.drop_values.Given as goal

abbrev pub invariant-loop-rest : goal.invariant-loop-rest
invariant-loop-rest l = record {
  shown : AllByRecursion (CanRender l.checked) l.rest;
  drops : IfSome l.list (λ ds.
      ds ++ drops_data l.checked l.rest l.given ≡ drops_data l.checked l.drops l.branches);
}

abbrev pub decreases-loop-rest : goal.decreases-loop-rest
decreases-loop-rest l = length l.rest
