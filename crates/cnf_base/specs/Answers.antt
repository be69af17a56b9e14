-- What a reader answers, by what the text says.
use Rattle.std.specs.Prelude.{ℕ, ◌≡◌, Result, Ok, Err}
use Rattle.base.specs.declared.refused.Refused.{Refused}
use Rattle.base.specs.declared.refused.Refused.TheVariants.{For, NoMemory}

-- the fault, or want of memory
abbrev pub Fails : {A F : Type 0} → Result A F → Refused F → Type 0
Fails said (For f) = said ≡ Err f
Fails said NoMemory = Unit {0}

-- the value, or the fault, or want of memory
abbrev pub Answers : {A F : Type 0} → Result A F → Result A (Refused F) → Type 0
Answers said (Ok x) = said ≡ Ok x
Answers said (Err e) = Fails said e

-- A step of a reader is done: its state is the one that is said. Or it has the fault that is said, or wants memory.
abbrev pub StepsTo : {S F : Type 0} → Result S F → S → Result (Unit {0}) (Refused F) → Type 0
StepsTo said new (Ok u) = said ≡ Ok new
StepsTo said new (Err e) = Fails said e

-- Some words are taken: what is left says what the whole says, at any end of the text. Or the whole has the fault.
abbrev pub ReadsOn : {A F : Type 0} → (ℕ → Result A F) → (ℕ → Result A F) → Result (Unit {0}) (Refused F) → Type 0
ReadsOn whole left (Ok u) = (end : ℕ) → left end ≡ whole end
ReadsOn whole left (Err e) = (end : ℕ) → Fails (whole end) e
