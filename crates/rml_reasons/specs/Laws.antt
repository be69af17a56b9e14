-- What a reason means.
use Rattle.std.specs.Prelude.{ℕ, List}
use Rattle.rml_command.specs.Models.{ModelTree}
use Rattle.rml_command.specs.Goals.{Holds}
use Rattle.rml_command.specs.declared.goal.Head.{Head}
use Rattle.limits.specs.Ceilings.{Ceilings}
use Rattle.rml_reasons.specs.Reasons.{IsReason}

-- A group that some conjectures carry holds: none of its goals has a counterexample where all conjectures are held.
abbrev pub CarriedGroupsHold : Type 0
CarriedGroupsHold = (limits : Ceilings) (m : ModelTree) (group : Head) (ks : List ℕ) → IsReason limits m group ks
    → Holds m group
