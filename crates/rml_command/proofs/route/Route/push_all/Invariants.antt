use Rattle.std.proofs.Common.{◌≡◌, ◌++◌, length}
use Rattle.std.specs.List.{AllByRecursion}
use Rattle.rml_command.specs.Spans.{places_of, IsFilled}
use Rattle.rml_command.proofs.route.Route.push_all.Given as goal

abbrev pub invariant-loop-rest : goal.invariant-loop-rest
invariant-loop-rest l = record {
  filled : AllByRecursion IsFilled l.rest;
  places : l.self.places ++ places_of l.rest ≡ l.fn.self.places ++ places_of l.spans;
  aborts : l.self.aborts ≡ l.fn.self.aborts;
}

abbrev pub decreases-loop-rest : goal.decreases-loop-rest
decreases-loop-rest l = length l.rest
