-- What a trail stands for.
use Rattle.std.specs.Prelude.{ℕ, ◌*◌, ◌^◌, ◌<◌, ◌≤◌, ◌≡◌, false, length, get_or}
use Rattle.cdcl.specs.declared.trail.Trail.TheInside.{Inside}
use Rattle.cdcl.specs.Trail.{literal_at, is_set}
use Rattle.cdcl.specs.TrailValue.{TrailValue}

-- the steps, and how many numbers of literals have a value
abbrev pub value_of_trail : Inside → TrailValue
value_of_trail a = record { steps = a.steps.items; size = length a.values.items }

-- the values say which literals are set, none is set twice, and each variable has a place and both its literals a value
pub record IsInside (a : Inside) : Type 0 where
  pub same : (l : ℕ) → get_or a.values.items l false ≡ is_set a.steps.items l
  pub once : (i j : ℕ) → i < j → j < length a.steps.items → literal_at a.steps.items i ≡ literal_at a.steps.items j → ⊥
  pub small : (i : ℕ) → i < length a.steps.items → literal_at a.steps.items i < length a.values.items
  pub halves : length a.values.items ≡ 2 * length a.places.items
  pub few : length a.places.items ≤ 2 ^ 31
