-- The walks of a length, in order, and the goals along them.
use Rattle.std.specs.Prelude.{ℕ, zero, suc, ◌+◌, ◌*◌, Bool, true, not, if◌then◌else◌, List, [], ◌∷◌, ◌++◌, length}
use Rattle.std.specs.Prelude.{map, Option, Some, None}
use Rattle.std.specs.List.{flat_map}
use Rattle.fol_formula.specs.Counts.{saturated}
use Rattle.rml_command.specs.Trees.{PrimitiveTree}
use Rattle.base.specs.Lists.{count_from, numbered}
use Rattle.rml_command.specs.Paths.{has_abort}
use Rattle.rml_command.specs.Models.{ModelTree}
use Rattle.rml_command.specs.Goals.{stage_paths}
use Rattle.rml_command.specs.declared.goal.Stage.{Stage}
use Rattle.rml_command.specs.declared.goal.Stage.TheVariants as stage
use Rattle.rml_command.specs.declared.goal.About.{About}
use Rattle.rml_command.specs.declared.goal.About.TheVariants as about
use Rattle.walks.specs.declared.leg.Leg.{Leg}
use Rattle.walks.specs.declared.leg.Walk.{Walk}

-- which paths are meant
abbrev pub Test : Type 0
Test = List PrimitiveTree → Bool

abbrev pub any_path : Test
any_path p = true

-- it does not end in abort
abbrev pub goes_on : Test
goes_on p = not (has_abort p)

-- the paths of a stage that are meant, which are numbered from n on
abbrev pub legs_among : Test → Stage → ℕ → List (List PrimitiveTree) → List Leg
legs_among test s n [] = []
legs_among test s n (p ∷ ps) =
    if test p then record { stage = s; path = n } ∷ legs_among test s (suc n) ps else legs_among test s (suc n) ps

-- the paths of a stage's block, in order
abbrev pub stage_legs : ModelTree → Test → Stage → List Leg
stage_legs m test s = legs_among test s 1 (stage_paths m s)

-- the paths of all actions: the actions in the order of the file, each with its paths in order
abbrev pub action_legs : ModelTree → Test → List Leg
action_legs m test = flat_map (λ a. stage_legs m test (stage.Action a)) (count_from 0 (length m.actions))

-- Which paths may stand before so many further actions: no path but the last ends in abort, and the last is as it is
-- asked for.
abbrev pub may_stand : Test → ℕ → Test
may_stand last zero = last
may_stand last (suc k) = goes_on

-- what may stand at each of the last k places of a walk
abbrev pub action_choices : ModelTree → Test → ℕ → List (List Leg)
action_choices m last zero = []
action_choices m last (suc k) = action_legs m (may_stand last k) ∷ action_choices m last k

-- what may stand at each place of a walk of length k: a path of init, and k paths of actions
abbrev pub choices_of : ModelTree → Test → ℕ → List (List Leg)
choices_of m last k = stage_legs m (may_stand last k) stage.Init ∷ action_choices m last k

-- the lists with one of each, in lexicographic order
abbrev pub one_of_each : List (List Leg) → List (List Leg)
one_of_each [] = [] ∷ []
one_of_each (legs ∷ rest) = flat_map (λ leg. map (λ more. leg ∷ more) (one_of_each rest)) legs

-- the walks of length k, in order
abbrev pub walks_of : ModelTree → ℕ → List (List Leg)
walks_of m k = one_of_each (choices_of m any_path k)

-- those that do not end in abort
abbrev pub open_walks : ModelTree → ℕ → List (List Leg)
open_walks m k = one_of_each (choices_of m goes_on k)

-- the path, or the empty one where there is none
abbrev pub path_of : Option (List PrimitiveTree) → List PrimitiveTree
path_of None = []
path_of (Some p) = p

-- the primitives along a leg
abbrev pub leg_path : ModelTree → Leg → List PrimitiveTree
leg_path m leg = path_of (numbered (stage_paths m leg.stage) leg.path)

-- the paths of a walk joined: one list of primitives
abbrev pub joined : ModelTree → List Leg → List PrimitiveTree
joined m legs = flat_map (leg_path m) legs

-- the goal that forbids what this is about at the end of these legs
abbrev pub goal_along : List Leg → About → Walk
goal_along legs a = record { parts = legs; about = a }

-- the goals of a walk that does not end in abort: each conjecture at its end, and then abort for each path of final
-- that ends in abort, as one more part
abbrev pub open_goals : ModelTree → List Leg → List Walk
open_goals m legs =
    map (λ k. goal_along legs (about.Conjecture k)) (count_from 0 (length m.conjectures))
    ++ map (λ leg. goal_along (legs ++ leg ∷ []) about.Abort) (stage_legs m has_abort stage.Final)

-- the goals of a walk: abort, if it ends in abort
abbrev pub walk_goals : ModelTree → List Leg → List Walk
walk_goals m legs = if has_abort (joined m legs) then goal_along legs about.Abort ∷ [] else open_goals m legs

-- the goals of length k, in order
abbrev pub goals_of_length : ModelTree → ℕ → List Walk
goals_of_length m k = flat_map (walk_goals m) (walks_of m k)

-- The number of walks, plus the number of those that do not end in abort times the number of paths of final that do. It
-- stops at the greatest number of 64 bits.
abbrev pub count_of : ModelTree → ℕ → ℕ
count_of m k =
    saturated
    (length (walks_of m k) + length (open_walks m k) * length (stage_legs m has_abort stage.Final))
