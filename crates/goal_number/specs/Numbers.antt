-- Which goal has which number.
use Rattle.std.specs.Prelude.{◌≡◌, ℕ, length, Some, None}
use Rattle.base.specs.Lists.{numbered}
use Rattle.rml_command.specs.Models.{ModelTree}
use Rattle.rml_command.specs.Goals.{IsGoal, goals_of}
use Rattle.goal_number.specs.declared.GoalAt.{GoalAt}
use Rattle.goal_number.specs.declared.GoalAt.TheVariants.{Goal, Beyond}

-- the goal of this number; or there is none, and the model has so many goals
abbrev pub IsAt : ModelTree → ℕ → GoalAt → Type 0
IsAt m number (Goal goal) = IsGoal m goal × (numbered (goals_of m) number ≡ Some goal)
IsAt m number (Beyond goals) = (goals ≡ length (goals_of m)) × (numbered (goals_of m) number ≡ None)
