-- What a refusal says: its own cause, and of want of memory nothing.
use Rattle.base.specs.declared.refused.Refused.{Refused}
use Rattle.base.specs.declared.refused.Refused.TheVariants.{For, NoMemory}

-- P holds of the cause, where there is one
abbrev pub Because : {E : Type 0} → (E → Type 0) → Refused E → Type 0
Because P (For cause) = P cause
Because P NoMemory = Unit {0}
