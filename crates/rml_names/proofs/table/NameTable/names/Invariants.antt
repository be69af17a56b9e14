use Rattle.std.proofs.Common.{◌≡◌, ◌++◌, length, map}
use Rattle.rml_names.proofs.table.NameTable.names.Given as goal

abbrev pub invariant-loop-rest : goal.invariant-loop-rest
invariant-loop-rest l = l.names ++ map (λ v. v.items) l.rest ≡ l.fn.self

abbrev pub decreases-loop-rest : goal.decreases-loop-rest
decreases-loop-rest l = length l.rest
