use Rattle.std.proofs.Common.{◌≡◌, List, ◌++◌, length}
use Rattle.base.specs.Lists.{SomeOf}
use Rattle.walks.specs.declared.leg.Leg.{Leg}
use Rattle.rml_bmc.proofs.beginnings.begins_with_one.Given as goal

-- where a walk begins with one of those that are left, it begins with one of all
abbrev pub invariant-loop-rest : goal.invariant-loop-rest
invariant-loop-rest l =
    SomeOf (λ walk. (more : List Leg) × (l.legs ≡ walk ++ more)) l.rest
    → SomeOf (λ walk. (more : List Leg) × (l.legs ≡ walk ++ more)) l.walks

abbrev pub decreases-loop-rest : goal.decreases-loop-rest
decreases-loop-rest l = length l.rest
