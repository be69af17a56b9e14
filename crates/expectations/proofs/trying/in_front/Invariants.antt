use Rattle.std.proofs.Common.{◌≡◌, ◌++◌, length}
use Rattle.expectations.specs.Expectations.{in_front}
use Rattle.expectations.proofs.trying.in_front.Given as goal

abbrev pub invariant-loop-rest : goal.invariant-loop-rest
invariant-loop-rest l = l.front.items ++ in_front l.at l.rest ≡ in_front l.at l.tokens

abbrev pub decreases-loop-rest : goal.decreases-loop-rest
decreases-loop-rest l = length l.rest
