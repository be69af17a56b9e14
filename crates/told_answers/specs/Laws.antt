-- What can be told.
use Rattle.std.specs.Prelude.{ℕ}
use Rattle.std.specs.List.{AllByRecursion}
use Rattle.rml_command.specs.Models.{ModelTree}
use Rattle.rml_command.specs.Fragment.{IsChecked}
use Rattle.limits.specs.Ceilings.{Ceilings}
use Rattle.lean_decide.specs.declared.settling.Counted.{Counted}
use Rattle.rml_bmc.specs.Bounds.{IsBounded}
use Rattle.rml_bmc.specs.declared.answer.Bounded.{Bounded}
use Rattle.told_answers.specs.RunsText.{CanTell}

-- What is answered of bounded runs can be told.
abbrev pub BoundedCanBeTold : Type 0
BoundedCanBeTold = (counted : Counted) (limits : Ceilings) (m : ModelTree) (steps : ℕ) (b : Bounded) → IsChecked m
    → IsBounded counted limits m steps b → AllByRecursion (CanTell m) b.lengths
