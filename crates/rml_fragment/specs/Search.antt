-- How the first fault is looked for. No public clause rests on this file.
use Rattle.std.specs.Prelude.{◌⊎◌, ℕ, Bool, true, false, if◌then◌else◌, nat_lt, nat_le, Option, Some, None}
use Rattle.rml_lex.specs.declared.token.Fault.{Fault}
use Rattle.rml_lex.specs.declared.fault_code.FaultCode.{FaultCode}
use Rattle.rml_lex.specs.FaultCodes.{number_of}
use Rattle.rml_fragment.specs.First.{IsNotBehind}

-- the one that stands first; at one place, the one whose code has the lower number
abbrev pub earlier_of : Fault → Fault → Fault
earlier_of f g =
    if nat_lt f.at g.at then f
    else (if nat_lt g.at f.at then g
    else (if nat_le (number_of f.code) (number_of g.code) then f else g))

-- the earlier of two faults, of which each may be missing
abbrev pub earlier : Option Fault → Option Fault → Option Fault
earlier None g = g
earlier (Some f) None = Some f
earlier (Some f) (Some g) = Some (earlier_of f g)

-- the fault of a check that is not passed
abbrev pub fault_unless : Bool → FaultCode → ℕ → Option Fault
fault_unless true code at = None
fault_unless false code at = Some (record { code = code; at = at })

-- what was found is one of P
abbrev pub IsFound : (Fault → Type 0) → Option Fault → Type 0
IsFound P None = Unit {0}
IsFound P (Some f) = P f

-- a fault was found, and it comes no later than this one
abbrev pub IsNotBehindFound : Option Fault → Fault → Type 0
IsNotBehindFound None g = ⊥
IsNotBehindFound (Some f) g = IsNotBehind f g

-- Of the faults of P those of Left are still to be looked at, and `first` is the first of the others.
pub record IsFirstSoFar (P Left : Fault → Type 0) (first : Option Fault) : Type 0 where
  pub is_one : IsFound P first
  pub within : (f : Fault) → Left f → P f
  pub least : (f : Fault) → P f → Left f ⊎ IsNotBehindFound first f
