-- Which conjectures carry no group but their own.
use Rattle.std.specs.Prelude.{◌==◌, ◌&&◌, ℕ, Bool, true, false, not, List, length}
use Rattle.std.specs.List.{filter, list_any, list_all}
use Rattle.base.specs.Lists.{count_from}
use Rattle.rml_command.specs.Models.{ModelTree}
use Rattle.rml_command.specs.declared.goal.About.{About}
use Rattle.rml_command.specs.declared.goal.About.TheVariants as about
use Rattle.rml_reasons.specs.declared.reason.Carried.{Carried}
use Rattle.rml_reasons.specs.declared.reason.Carried.TheVariants.{By, Not}
use Rattle.model_reasons.specs.declared.reason.Reason.{Reason}

-- conjecture k is one of those that carry a group
abbrev pub names : ℕ → Carried → Bool
names k (By needs) = list_any (λ n. n.conjecture == k) needs
names k (Not lack) = false

-- the group is about conjecture k
abbrev pub is_about : ℕ → About → Bool
is_about k about.Abort = false
is_about k (about.Conjecture n) = n == k

-- it carries this group, which is not about it
abbrev pub serves : ℕ → Reason → Bool
serves k r = names k r.carried && not (is_about k r.about)

-- the conjectures that serve no group, in the order of the file
abbrev pub idle_conjectures : ModelTree → List Reason → List ℕ
idle_conjectures m reasons = filter (λ k. not (list_any (serves k) reasons)) (count_from 0 (length m.conjectures))

-- some conjectures carry a group
abbrev pub is_carried : Carried → Bool
is_carried (By needs) = true
is_carried (Not lack) = false

-- so it is of each group: where it is not, nobody knows what the others need
abbrev pub are_carried : List Reason → Bool
are_carried reasons = list_all (λ r. is_carried r.carried) reasons
