-- Which conjectures carry a group, and what shows that none of them can be left out.
use Rattle.std.specs.Prelude.{◌≡◌, ◌==◌, ◌<◌, ℕ, not, List, [], ◌∷◌, length, map, All}
use Rattle.std.specs.List.{AllByRecursion, filter}
use Rattle.base.specs.Lists.{count_from}
use Rattle.rml_command.specs.Models.{ModelTree}
use Rattle.rml_command.specs.Goals.{group_goals}
use Rattle.rml_command.specs.declared.goal.Head.{Head}
use Rattle.limits.specs.Ceilings.{Ceilings}
use Rattle.lean_decide.specs.declared.settling.Counted.TheVariants.{Whole}
use Rattle.rml_houdini.specs.Rounds.{IsSafe, IsFirstFailing, IsFirstOpen}
use Rattle.rml_reasons.specs.declared.reason.Lack.{Lack}
use Rattle.rml_reasons.specs.declared.reason.Lack.TheVariants.{Fails, Open}
use Rattle.rml_reasons.specs.declared.reason.Need.{Need}
use Rattle.rml_reasons.specs.declared.reason.Carried.{Carried}
use Rattle.rml_reasons.specs.declared.reason.Carried.TheVariants.{By, Not}

-- each number is below those behind it
abbrev pub IsAscending : List ℕ → Type 0
IsAscending [] = Unit {0}
IsAscending (k ∷ ks) = AllByRecursion (λ n. k < n) ks × IsAscending ks

-- numbers of conjectures of the model, in the order of the file
abbrev pub AreConjectures : ModelTree → List ℕ → Type 0
AreConjectures m ks = All (λ k. k < length m.conjectures) ks × IsAscending ks

-- these but one
abbrev pub without : ℕ → List ℕ → List ℕ
without k ks = filter (λ n. not (k == n)) ks

-- the conjectures that carry a group, by their numbers
abbrev pub needed_conjectures : List Need → List ℕ
needed_conjectures needs = map (λ n. n.conjecture) needs

-- These conjectures carry the group: where only they hold before its stage, none of its goals passes a limit or has a
-- counterexample.
abbrev pub IsReason : Ceilings → ModelTree → Head → List ℕ → Type 0
IsReason limits m group ks = AllByRecursion (IsSafe Whole limits m ks) (group_goals m group)

-- What the group lacks where only these hold: the first of its goals that fails does so by this execution; or none
-- fails, and this is the first that is left open.
abbrev pub IsLack : Ceilings → ModelTree → Head → List ℕ → Lack → Type 0
IsLack limits m group ks (Fails shown) = IsFirstFailing Whole limits m ks (group_goals m group) shown
IsLack limits m group ks (Open goal c) = IsFirstOpen Whole limits m ks (group_goals m group) goal c

-- They carry the group, and without any one of them the group lacks what is told of that one.
pub record IsMinimalReason (limits : Ceilings) (m : ModelTree) (group : Head) (needs : List Need) : Type 0 where
  pub conjectures : AreConjectures m (needed_conjectures needs)
  pub carry : IsReason limits m group (needed_conjectures needs)
  pub needed : AllByRecursion
      (λ n. IsLack limits m group (without n.conjecture (needed_conjectures needs)) n.lack) needs

-- what carries the group, or what it lacks where all conjectures are held
abbrev pub IsCarried : Ceilings → ModelTree → Head → Carried → Type 0
IsCarried limits m group (By needs) = IsMinimalReason limits m group needs
IsCarried limits m group (Not lack) = IsLack limits m group (count_from 0 (length m.conjectures)) lack
