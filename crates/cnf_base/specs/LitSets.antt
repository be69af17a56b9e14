-- The invariant of a set of literals.
use Rattle.std.specs.Prelude.{ℕ, ◌<◌, ◌≤◌, get_or}
use Rattle.cnf_base.specs.declared.lit_set.LitSet.TheInside.{Inside}
use Rattle.cnf_base.specs.LitSetValue.{LitSetValue}

-- what a set of literals is seen as: the stamps, the epoch, and the literals that stand in the table
abbrev pub value_of_set : Inside → LitSetValue
value_of_set a = record { stamps = a.stamps.items; epoch = a.epoch; far = a.far.keys }

-- a literal without a stamp is not in the set, and no stamp is later than the epoch
pub record IsLitSet (a : Inside) : Type 0 where
  pub some : 0 < a.epoch
  pub past : (k : ℕ) → get_or a.stamps.items k 0 ≤ a.epoch
