use Rattle.std.proofs.Common.{◌≡◌, take}
use Rattle.cti_minimise.specs.Bounding.{bounds_by}
use Rattle.cti_minimise.specs.Saying.{said_by}
use Rattle.cti_minimise.proofs.bounds.sentences.Given as goal

abbrev pub invariant-loop-place : goal.invariant-loop-place
invariant-loop-place l =
    l.sentences.items ≡ bounds_by (said_by l.signature l.saying l.bounds.place) 0 (take l.place l.bounds.numbers.now)
