use Rattle.std.proofs.Common.{◌≡◌, ◌⊎◌, ◌<◌, ◌^◌}
use Rattle.cdcl_tables.specs.Extent.{AreUpTo, StandsAmong}
use Rattle.cdcl_tables.proofs.extent.greatest_variable.Given as goal

abbrev pub invariant-loop-entry : goal.invariant-loop-entry
invariant-loop-entry l = record {
  some : 0 < l.greatest;
  range : l.greatest < 2 ^ 31;
  up_to : AreUpTo l.greatest l.entries l.entry-index;
  stands : (l.greatest ≡ 1) ⊎ StandsAmong l.greatest l.entries l.entry-index;
}
