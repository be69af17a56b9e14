use Rattle.std.proofs.Common.{◌≡◌, ◌*◌, ℕ, min, drop}
use Rattle.fol_sig.specs.Tables.{tuple_count, numbers}
use Rattle.fol_sig.proofs.tuples.count_tuples.Given as goal

abbrev pub invariant-loop-sort : goal.invariant-loop-sort
invariant-loop-sort l =
    (n : ℕ) × (l.count ≡ min n 18446744073709551615)
    × (n * tuple_count l.sizes (numbers (drop l.sort-index l.sorts)) ≡ tuple_count l.sizes (numbers l.sorts))
