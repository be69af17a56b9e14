-- Where words and faults stand.
use Rattle.std.specs.Prelude.{ℕ, ◌≤◌, List, [], ◌∷◌}
use Rattle.cnf_base.specs.declared.text.CnfFault.{CnfFault}
use Rattle.cnf_base.specs.Words.{Word}

-- each word begins among n bytes, or at their end
abbrev pub BeginBy : ℕ → List Word → Type 0
BeginBy n [] = Unit {0}
BeginBy n (w ∷ ws) = (w.at ≤ n) × BeginBy n ws

-- the fault stands among n bytes, or at their end
abbrev pub StandsBy : ℕ → CnfFault → Type 0
StandsBy n fault = fault.at ≤ n
