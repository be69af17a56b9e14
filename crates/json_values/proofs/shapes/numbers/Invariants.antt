use Rattle.std.proofs.Common.{◌≡◌, ◌++◌, map, length, IfSome}
use Rattle.json_values.specs.Values.{number_data}
use Rattle.json_values.proofs.shapes.numbers.Given as goal

abbrev pub invariant-loop-rest : goal.invariant-loop-rest
invariant-loop-rest l = IfSome l.list (λ ds. ds ++ map number_data l.rest ≡ map number_data l.numbers)

abbrev pub decreases-loop-rest : goal.decreases-loop-rest
decreases-loop-rest l = length l.rest
