use Rattle.std.proofs.Common.{◌≡◌, ◌++◌, length}
use Rattle.std.specs.List.{AllByRecursion, flat_map}
use Rattle.fol_sig.specs.Symbols.{symbols}
use Rattle.rml_bmc.specs.Shown.{EndFits}
use Rattle.bounded_text.specs.BoundedText.{HasPath, part_text}
use Rattle.bounded_text.proofs.showing.push_parts.Given as goal

abbrev pub invariant-loop-rest : goal.invariant-loop-rest
invariant-loop-rest l = record {
  paths : AllByRecursion (HasPath l.checked) l.rest;
  fit : AllByRecursion (λ part. EndFits (symbols l.checked.signature) part.end) l.rest;
  text : l.out.items ++ flat_map (λ part. part_text l.checked l.start part) l.rest ≡ l.fn.out.items
      ++ flat_map (λ part. part_text l.checked l.start part) l.parts;
}

abbrev pub decreases-loop-rest : goal.decreases-loop-rest
decreases-loop-rest l = length l.rest
