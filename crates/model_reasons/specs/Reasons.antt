-- Why the groups of a model hold.
use Rattle.std.specs.Prelude.{◌≡◌, List, map}
use Rattle.std.specs.List.{AllByRecursion}
use Rattle.rml_command.specs.Models.{ModelTree}
use Rattle.rml_command.specs.Goals.{groups_of}
use Rattle.rml_command.specs.declared.goal.Head.{Head}
use Rattle.limits.specs.Ceilings.{Ceilings}
use Rattle.rml_reasons.specs.Reasons.{IsCarried}
use Rattle.model_reasons.specs.declared.reason.Reason.{Reason}

-- the group that a reason is of
abbrev pub head_of : Reason → Head
head_of r = record { stage = r.stage; about = r.about }

-- what is said to carry it does, or it lacks what is told
abbrev pub IsCarriedSo : Ceilings → ModelTree → Reason → Type 0
IsCarriedSo limits m r = IsCarried limits m (head_of r) r.carried

-- All groups of the model, in order and once each, each with what carries it.
pub record AreReasons (limits : Ceilings) (m : ModelTree) (reasons : List Reason) : Type 0 where
  pub groups : map head_of reasons ≡ groups_of m
  pub carried : AllByRecursion (IsCarriedSo limits m) reasons
