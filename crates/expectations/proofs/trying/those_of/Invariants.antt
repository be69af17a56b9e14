use Rattle.std.proofs.Common.{drop}
use Rattle.expectations.specs.Expectations.{MayStand}
use Rattle.expectations.proofs.Chosen.{GoesOn}
use Rattle.expectations.proofs.trying.those_of.Given as goal

abbrev pub invariant-loop-kind : goal.invariant-loop-kind
invariant-loop-kind l = GoesOn (MayStand l.text l.front) l.all l.those.items (drop l.kind-index l.all)
