use Rattle.limits.specs.Ceilings.{ceilings}
use Rattle.rml_reasons.proofs.Judging.{AreNeedsSoFar}
use Rattle.rml_reasons.proofs.needs.judge.Given as goal

abbrev pub invariant-loop-k : goal.invariant-loop-k
invariant-loop-k l =
    AreNeedsSoFar (ceilings l.limits) l.checked (record { stage = l.fn.stage; about = l.fn.about }) l.held l.k-index
    l.needs.items
