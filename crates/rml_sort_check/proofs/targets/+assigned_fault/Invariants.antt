use Rattle.std.proofs.Common.{length}
use Rattle.rml_sort_check.proofs.targets.+assigned_fault.Given as goal

abbrev pub decreases-assigned_fault : goal.decreases-assigned_fault
decreases-assigned_fault l = length l.parameters.now
