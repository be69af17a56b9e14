use Rattle.std.proofs.Common.{◌≡◌, ◌++◌, map, length, IfSome}
use Rattle.json_outcome.specs.GroupData.{name_data}
use Rattle.json_outcome.proofs.houdini.names_value.Given as goal

abbrev pub invariant-loop-rest : goal.invariant-loop-rest
invariant-loop-rest l = IfSome l.list (λ ds.
    ds ++ map (name_data l.names.conjectures) l.rest ≡ map (name_data l.names.conjectures) l.conjectures)

abbrev pub decreases-loop-rest : goal.decreases-loop-rest
decreases-loop-rest l = length l.rest
