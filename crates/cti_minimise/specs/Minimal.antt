-- Which counterexamples of a goal are least, and where the search for smaller ones stopped.
use Rattle.std.specs.Prelude.{◌≡◌, ◌⊎◌, ℕ, ◌<◌, ◌≤◌, List, [], ◌∷◌, ◌++◌, length, take, get_or, None}
use Rattle.fol_sig.specs.Tables.{Tables}
use Rattle.rml_command.specs.Models.{ModelTree}
use Rattle.rml_command.specs.Goals.{IsCounterexample}
use Rattle.rml_command.specs.declared.goal.Goal.{Goal}
use Rattle.rml_command.specs.declared.havoc.Havoc.{Havoc}
use Rattle.limits.specs.declared.cause.Cause.{Cause}
use Rattle.rml_report.specs.declared.least.Least.{Least}
use Rattle.rml_report.specs.declared.least.Least.TheVariants as least
use Rattle.limits.specs.Ceilings.{Ceilings}
use Rattle.obligation_decide.specs.Restricted.{RestrictedPassesFirst, IsLeftOpenWhere}
use Rattle.cti_minimise.specs.Extents.{extent, bound_place, HasBound, lowest}
use Rattle.cti_minimise.specs.Bounding.{bounds_on}

-- The first list is below the second in the first place where they differ; where one ends, it is not.
abbrev pub IsSmaller : List ℕ → List ℕ → Type 0
IsSmaller [] ys = ⊥
IsSmaller (x ∷ xs) [] = ⊥
IsSmaller (x ∷ xs) (y ∷ ys) = (x < y) ⊎ ((x ≡ y) × IsSmaller xs ys)

-- No counterexample of the goal has a smaller list of sizes and then of numbers of true tuples.
abbrev pub HasNoSmaller : ModelTree → Goal → List ℕ → Type 0
HasNoSmaller m goal numbers =
    (s : Tables) (havocs : List Havoc) (values : List ℕ) → IsCounterexample m m.conjectures goal s havocs values
    → IsSmaller (extent s) numbers → ⊥

-- the structure's numbers before this place, and then this number
abbrev pub numbers_up_to : Tables → ℕ → ℕ → List ℕ
numbers_up_to s place number = take place (extent s) ++ number ∷ []

-- Each bound below one of these numbers that a structure may have: with it, and with bounds on the numbers before, the
-- goal passes no limit by its size.
abbrev pub AreTried : Ceilings → ModelTree → Goal → List ℕ → Type 0
AreTried limits m goal numbers =
    (place n : ℕ) → place < length numbers → lowest m.signature place ≤ n → n < get_or numbers place 0
    → RestrictedPassesFirst limits m (bounds_on m.signature (take place numbers ++ n ∷ [])) goal None

-- no counterexample has smaller numbers than these, and the bounds below them were tried
pub record AreLeast (limits : Ceilings) (m : ModelTree) (goal : Goal) (numbers : List ℕ) : Type 0 where
  pub smaller : HasNoSmaller m goal numbers
  pub tried : AreTried limits m goal numbers

-- Whether the number at a place may be at most `number` is left open: a structure may have so few, and it is more
-- there; those before the place, and this, are least; and the goal with bounds on these is left open for this cause.
pub record IsStoppedAt (limits : Ceilings) (m : ModelTree) (goal : Goal) (s : Tables) (place number : ℕ) (cause : Cause)
    : Type 0 where
  pub possible : lowest m.signature place ≤ number
  pub below : number < get_or (extent s) place 0
  pub least : AreLeast limits m goal (numbers_up_to s place number)
  pub left_open : IsLeftOpenWhere limits m (bounds_on m.signature (numbers_up_to s place number)) goal cause

-- what is said of a counterexample's structure
abbrev pub IsLeast : Ceilings → ModelTree → Goal → Tables → Least → Type 0
IsLeast limits m goal s least.Yes = AreLeast limits m goal (extent s)
IsLeast limits m goal s (least.Stopped at size cause) =
    HasBound m.signature at × IsStoppedAt limits m goal s (bound_place m.signature at) size cause
