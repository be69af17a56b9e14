use Rattle.std.proofs.Common.{length, map}
use Rattle.rml_command.specs.View.{command}
use Rattle.rml_fragment.specs.First.{SomePlaced}
use Rattle.rml_fragment.specs.Faults.{HasManyPaths}
use Rattle.rml_fragment.specs.Search.{IsFirstSoFar}
use Rattle.rml_fragment.proofs.long.action_fault.Given as goal

abbrev pub invariant-loop-rest : goal.invariant-loop-rest
invariant-loop-rest l =
    IsFirstSoFar (SomePlaced HasManyPaths (map command l.actions) l.places)
    (SomePlaced HasManyPaths (map command l.rest) l.left) l.first

abbrev pub decreases-loop-rest : goal.decreases-loop-rest
decreases-loop-rest l = length l.rest
