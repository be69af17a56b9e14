-- The first function that closes a cycle stands wherever there is one.
use Rattle.std.specs.Prelude.{ℕ}
use Rattle.fol_sig.specs.Symbols.{Symbols}
use Rattle.fol_sig.specs.Strata.{IsOnCycle, IsFirstCycle}

-- Where no function is the first that closes a cycle, none stands on one.
abbrev pub CycleHasFirst : Type 0
CycleHasFirst = (sig : Symbols) → ((f : ℕ) → IsFirstCycle sig f → ⊥) → (f : ℕ) → IsOnCycle sig f → ⊥
