-- Where faults stand.
use Rattle.std.specs.Prelude.{ℕ, ◌≤◌}
use Rattle.lrat_log.specs.declared.text.LogFault.{LogFault}

-- the fault stands among n bytes, or at their end
abbrev pub StandsBy : ℕ → LogFault → Type 0
StandsBy n fault = fault.at ≤ n
