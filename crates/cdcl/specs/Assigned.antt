-- Which variables have a value on a trail.
use Rattle.std.specs.Prelude.{ℕ, ◌+◌, ◌*◌, ◌^◌, ◌<◌, ◌≡◌, ◌⊎◌, true, false}
use Rattle.cdcl.specs.Trail.{is_set}
use Rattle.cdcl.specs.TrailValue.{TrailValue}

-- neither the variable nor its negation is set
pub record IsUnset (t : TrailValue) (v : ℕ) : Type 0 where
  pub positive : 0 < v
  pub few : v < 2 ^ 31
  pub small : 2 * v + 1 < t.size
  pub not_true : is_set t.steps (2 * v) ≡ false
  pub not_false : is_set t.steps (2 * v + 1) ≡ false

-- one literal of a variable is set
abbrev pub HasValue : TrailValue → ℕ → Type 0
HasValue t v = (is_set t.steps (2 * v) ≡ true) ⊎ (is_set t.steps (2 * v + 1) ≡ true)

-- each variable that the trail has room for has a value
abbrev pub AreAllSet : TrailValue → Type 0
AreAllSet t = (v : ℕ) → 0 < v → 2 * v + 1 < t.size → HasValue t v
