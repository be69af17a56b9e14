-- What can be written out.
use Rattle.std.specs.Prelude.{ℕ}
use Rattle.std.specs.List.{AllByRecursion}
use Rattle.rml_command.specs.Models.{ModelTree}
use Rattle.rml_command.specs.Fragment.{IsChecked}
use Rattle.limits.specs.Ceilings.{Ceilings}
use Rattle.lean_decide.specs.declared.settling.Counted.{Counted}
use Rattle.rml_bmc.specs.Bounds.{IsBounded}
use Rattle.rml_bmc.specs.declared.answer.Bounded.{Bounded}
use Rattle.bounded_text.specs.BoundedText.{CanRender}

-- What is answered of bounded runs can be written out.
abbrev pub BoundedCanBeRendered : Type 0
BoundedCanBeRendered = (counted : Counted) (limits : Ceilings) (m : ModelTree) (steps : ℕ) (b : Bounded)
    → IsChecked m → IsBounded counted limits m steps b → AllByRecursion (CanRender m) b.lengths
