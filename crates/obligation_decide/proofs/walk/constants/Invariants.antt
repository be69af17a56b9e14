use Rattle.std.proofs.Common.{◌≡◌, ℕ, ◌+◌, ◌<◌, get_or, vec_len, []}
use Rattle.fol_sig.specs.Tables.{fun_at}
use Rattle.obligation_decide.proofs.walk.constants.Given as goal

abbrev pub invariant-loop-i : goal.invariant-loop-i
invariant-loop-i l =
    (vec_len l.values ≡ l.i)
    × ((k : ℕ) → k < l.i → get_or l.values.items k 0 ≡ fun_at l.model (l.functions + k) [])
