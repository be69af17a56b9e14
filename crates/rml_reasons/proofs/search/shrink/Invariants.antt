use Rattle.limits.specs.Ceilings.{ceilings}
use Rattle.rml_reasons.specs.Shrinking.{Carry}
use Rattle.rml_reasons.proofs.search.shrink.Given as goal

abbrev pub invariant-loop-conjecture : goal.invariant-loop-conjecture
invariant-loop-conjecture l =
    Carry (ceilings l.limits) l.checked (record { stage = l.fn.stage; about = l.fn.about }) l.left.items
