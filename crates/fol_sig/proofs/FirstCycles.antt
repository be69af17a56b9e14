-- Where there is a cycle, some function is the first that closes one.
use Rattle.std.proofs.Common.{◌≡◌, ℕ, zero, suc, ◌+◌, ◌≤◌, subst, arith}
use Rattle.fol_sig.specs.Symbols.{Symbols}
use Rattle.fol_sig.specs.Strata.{with_functions, IsOnCycle, IsFirstCycle}
use Rattle.fol_sig.specs.Cycles.{CycleHasFirst}
use Rattle.fol_sig.proofs.Cycles.{first_cycle}

none_below : (sig : Symbols) → ((f : ℕ) → IsFirstCycle sig f → ⊥) → (n : ℕ) → n ≤ sig.functions → (f : ℕ)
    → IsOnCycle (with_functions sig n) f → ⊥
none_below sig none zero le f c = let lt = c.closed.0 in omega (arith, lt)
none_below sig none (suc n) le f c =
    let e : suc n ≡ n + 1 = omega arith in
    none n (first_cycle sig n (omega (arith, le)) (none_below sig none n (omega (arith, le))) f
    (subst (λ k. IsOnCycle (with_functions sig k) f) e c))

pub cycle_has_first : CycleHasFirst
cycle_has_first = λ sig none f c. none_below sig none sig.functions (omega arith) f c
