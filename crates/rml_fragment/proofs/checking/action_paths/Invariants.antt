use Rattle.std.proofs.Common.{◌≡◌, ◌++◌, length, map}
use Rattle.std.specs.List.{AllByRecursion}
use Rattle.rml_command.specs.View.{command}
use Rattle.rml_command.specs.Paths.{paths_of}
use Rattle.rml_command.specs.Fragment.{HasFewPaths}
use Rattle.rml_fragment.proofs.checking.action_paths.Given as goal

abbrev pub invariant-loop-rest : goal.invariant-loop-rest
invariant-loop-rest l = record {
  few : AllByRecursion HasFewPaths (map command l.rest);
  paths : l.all ++ map paths_of (map command l.rest) ≡ map paths_of (map command l.actions);
}

abbrev pub decreases-loop-rest : goal.decreases-loop-rest
decreases-loop-rest l = length l.rest
