use Rattle.std.proofs.Common.{drop}
use Rattle.rml_fragment.specs.Faults.{ConditionMisses}
use Rattle.rml_fragment.specs.Search.{IsFirstSoFar}
use Rattle.rml_fragment.proofs.fragment.condition_fault.Given as goal

abbrev pub invariant-loop-condition : goal.invariant-loop-condition
invariant-loop-condition l =
    IsFirstSoFar (ConditionMisses l.conditions) (ConditionMisses (drop l.condition-index l.conditions)) l.first
