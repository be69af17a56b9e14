-- The first of some faults.
use Rattle.std.specs.Prelude.{◌≡◌, ◌⊎◌, ℕ, ◌<◌, ◌≤◌, List, [], ◌∷◌, Option, Some, None}
use Rattle.rml_lex.specs.declared.token.Fault.{Fault}
use Rattle.rml_lex.specs.declared.fault_code.FaultCode.{FaultCode}
use Rattle.rml_lex.specs.FaultCodes.{number_of}

-- a fault comes first by its place, and at one place by the number of its code
abbrev pub IsNotBehind : Fault → Fault → Type 0
IsNotBehind f g = (f.at < g.at) ⊎ ((f.at ≡ g.at) × (number_of f.code ≤ number_of g.code))

-- the fault is one of P, and none of P comes before it
pub record IsFirst (P : Fault → Type 0) (fault : Fault) : Type 0 where
  pub is_one : P fault
  pub least : (other : Fault) → P other → IsNotBehind fault other

-- the first fault of P, or None where there is none
abbrev pub IsFirstOf : (Fault → Type 0) → Option Fault → Type 0
IsFirstOf P None = (fault : Fault) → P fault → ⊥
IsFirstOf P (Some fault) = IsFirst P fault

-- One of the things breaks a rule, and the fault stands at its place. The things and their places are listed in one
-- order.
abbrev pub SomePlaced : {A : Type 0} → (A → FaultCode → Type 0) → List A → List ℕ → Fault → Type 0
SomePlaced Breaks [] places fault = ⊥
SomePlaced Breaks (x ∷ xs) [] fault = ⊥
SomePlaced Breaks (x ∷ xs) (at ∷ places) fault =
    ((fault.at ≡ at) × Breaks x fault.code) ⊎ SomePlaced Breaks xs places fault
