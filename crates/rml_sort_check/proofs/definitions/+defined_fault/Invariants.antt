use Rattle.std.proofs.Common.{length}
use Rattle.rml_sort_check.proofs.definitions.+defined_fault.Given as goal

abbrev pub decreases-defined_fault : goal.decreases-defined_fault
decreases-defined_fault l = length l.parameters.now
