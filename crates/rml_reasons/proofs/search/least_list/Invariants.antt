use Rattle.std.proofs.Common.{length}
use Rattle.limits.specs.Ceilings.{ceilings}
use Rattle.rml_reasons.specs.Shrinking.{Carry}
use Rattle.rml_reasons.proofs.search.least_list.Given as goal

abbrev pub invariant-loop-held : goal.invariant-loop-held
invariant-loop-held l =
    Carry (ceilings l.limits) l.checked (record { stage = l.fn.stage; about = l.fn.about }) l.held.items

abbrev pub decreases-loop-held : goal.decreases-loop-held
decreases-loop-held l = length l.held.items
