-- Where the goal of each number has no counterexample, so has each goal of each group.
use Rattle.std.proofs.Common.{◌≡◌, ℕ, suc, List, [], ◌∷◌, refl}
use Rattle.std.specs.Prelude.{slice_get, Some}
use Rattle.std.specs.List.{AllByRecursion, flat_map}
use Rattle.base.proofs.Lists.{all_front, all_back}
use Rattle.rml_command.specs.Goals.{groups_of, group_goals, goals_of, HasNone}
use Rattle.rml_command.specs.Laws.{InductionIsSound, SafeByGoals}

all_entries : {A : Type 0} (P : A → Type 0) (xs : List A) → ((k : ℕ) (x : A) → slice_get xs k ≡ Some x → P x)
    → AllByRecursion P xs
all_entries P [] each = tt
all_entries P (x ∷ xs) each = (each 0 x refl, all_entries P xs (λ k y at. each (suc k) y at))

all_parts : {A B : Type 0} (P : B → Type 0) (f : A → List B) (xs : List A) → AllByRecursion P (flat_map f xs)
    → AllByRecursion (λ x. AllByRecursion P (f x)) xs
all_parts P f [] all = tt
all_parts P f (x ∷ xs) all = (
  all_front P (f x) (flat_map f xs) all,
  all_parts P f xs (all_back P (f x) (flat_map f xs) all),
)

pub safe_by_goals : InductionIsSound → SafeByGoals
safe_by_goals sound m fits each =
    sound m fits
    (all_parts (HasNone m m.conjectures) (group_goals m) (groups_of m)
    (all_entries (HasNone m m.conjectures) (goals_of m) (λ k goal at. each (suc k) goal at)))
