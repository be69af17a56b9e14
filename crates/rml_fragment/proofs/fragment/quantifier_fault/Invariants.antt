use Rattle.std.proofs.Common.{drop}
use Rattle.rml_fragment.specs.Faults.{QuantifierStands}
use Rattle.rml_fragment.specs.Search.{IsFirstSoFar}
use Rattle.rml_fragment.proofs.fragment.quantifier_fault.Given as goal

abbrev pub invariant-loop-at : goal.invariant-loop-at
invariant-loop-at l = IsFirstSoFar (QuantifierStands l.places) (QuantifierStands (drop l.at-index l.places)) l.first
