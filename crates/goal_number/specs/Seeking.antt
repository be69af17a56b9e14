-- Goals are counted off in order. Private contracts alone cite this.
use Rattle.std.specs.Prelude.{◌≡◌, ◌<◌, ◌+◌, ℕ, zero, suc, List, [], ◌∷◌, length, Some, slice_get}
use Rattle.rml_command.specs.Models.{ModelTree}
use Rattle.rml_command.specs.Goals.{IsGoal, goals_of}
use Rattle.rml_command.specs.declared.goal.Goal.{Goal}
use Rattle.rml_command.specs.declared.goal.Stage.{Stage}
use Rattle.rml_command.specs.declared.goal.Stage.TheVariants as stages
use Rattle.goal_number.specs.declared.seeking.Sought.{Sought}
use Rattle.goal_number.specs.declared.seeking.Sought.TheVariants.{Found, Left}

-- the goal behind so many of these, or how many are left to be counted off behind them
abbrev pub seek : ℕ → List Goal → Sought
seek n [] = Left n
seek zero (goal ∷ goals) = Found goal
seek (suc n) (goal ∷ goals) = seek n goals

-- the search goes on in these goals, unless it has ended
abbrev pub seek_on : Sought → List Goal → Sought
seek_on (Found goal) goals = Found goal
seek_on (Left n) goals = seek n goals

-- P holds of the goal, where it is found
abbrev pub IfFound : (Goal → Type 0) → Sought → Type 0
IfFound P (Found goal) = P goal
IfFound P (Left n) = Unit {0}

-- it is init or an action of the model
abbrev pub IsBeforeFinal : ModelTree → Stage → Type 0
IsBeforeFinal m stages.Init = Unit {0}
IsBeforeFinal m (stages.Action a) = a < length m.actions
IsBeforeFinal m stages.Final = ⊥

-- the goal at this place, or all goals and so many more are as many as stand before the place
abbrev pub IsPlace : List Goal → ℕ → Sought → Type 0
IsPlace goals place (Found goal) = slice_get goals place ≡ Some goal
IsPlace goals place (Left n) = place ≡ length goals + n

-- the goal of the model at this place, counted from 0; or by how much the place exceeds the number of goals
abbrev pub IsFoundOrLeft : ModelTree → ℕ → Sought → Type 0
IsFoundOrLeft m place sought = IsPlace (goals_of m) place sought × IfFound (IsGoal m) sought
