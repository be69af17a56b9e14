-- What a call answers that judges a part of a tree and makes something of it.
use Rattle.std.specs.Prelude.{◌≡◌, List, Some, None, Result, Ok, Err}
use Rattle.base.specs.declared.refused.Refused.{Refused}
use Rattle.base.specs.Because.{Because}
use Rattle.rml_lex.specs.declared.token.Fault.{Fault}
use Rattle.rml_sort_check.specs.Demands.{Demand, first_fault}

-- The value is what the part stands for, and all demands are met; or the refusal is the first fault, or want of memory.
abbrev pub Answers : {X V : Type 0} → (X → V) → Result X (Refused Fault) → List Demand → V → Type 0
Answers view (Ok x) ds v = (view x ≡ v) × (first_fault ds ≡ None)
Answers view (Err e) ds v = Because (λ f. first_fault ds ≡ Some f) e
