use Rattle.std.proofs.Common.{◌≡◌, ◌++◌, map, length, IfSome}
use Rattle.std.specs.List.{AllByRecursion}
use Rattle.fol_sig.specs.Symbols.{symbols}
use Rattle.rml_bmc.specs.Shown.{EndFits}
use Rattle.json_outcome.specs.BoundedData.{part_data}
use Rattle.json_outcome.proofs.bounded.part_values.Given as goal

abbrev pub invariant-loop-rest : goal.invariant-loop-rest
invariant-loop-rest l = record {
  fit : AllByRecursion (λ part. EndFits (symbols l.checked.signature) part.end) l.rest;
  parts : IfSome l.list (λ ds.
      ds ++ map (part_data l.checked l.start) l.rest ≡ map (part_data l.checked l.start) l.parts);
}

abbrev pub decreases-loop-rest : goal.decreases-loop-rest
decreases-loop-rest l = length l.rest
