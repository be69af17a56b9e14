use Rattle.std.proofs.Common.{◌≡◌, [], replicate, map}
use Rattle.ground_terms.proofs.Rows.{number}
use Rattle.ground_terms.proofs.functions_into.empty_rows.Given as goal

abbrev pub invariant-loop-k : goal.invariant-loop-k
invariant-loop-k l = map (λ v. map number v.items) l.rows.items ≡ replicate l._k []
