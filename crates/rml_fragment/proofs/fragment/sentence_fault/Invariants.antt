use Rattle.std.proofs.Common.{length}
use Rattle.rml_fragment.specs.First.{SomePlaced}
use Rattle.rml_fragment.specs.Faults.{Misses}
use Rattle.rml_fragment.specs.Search.{IsFirstSoFar}
use Rattle.rml_fragment.proofs.fragment.sentence_fault.Given as goal

abbrev pub invariant-loop-rest : goal.invariant-loop-rest
invariant-loop-rest l =
    IsFirstSoFar (SomePlaced (Misses l.demand) l.sentences l.places) (SomePlaced (Misses l.demand) l.rest l.left)
    l.first

abbrev pub decreases-loop-rest : goal.decreases-loop-rest
decreases-loop-rest l = length l.rest
