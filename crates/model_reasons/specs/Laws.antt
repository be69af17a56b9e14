-- What idle conjectures mean, and what is shown of a lack.
use Rattle.std.specs.Prelude.{◌≡◌, ℕ, List}
use Rattle.std.specs.List.{AllByRecursion}
use Rattle.base.specs.Lists.{SomeOf}
use Rattle.rml_command.specs.Models.{ModelTree}
use Rattle.rml_command.specs.declared.goal.About.TheVariants as about
use Rattle.rml_report.specs.Reports.{IsExecution}
use Rattle.limits.specs.Ceilings.{Ceilings}
use Rattle.rml_command.specs.InductiveSets.{Has}
use Rattle.rml_reasons.specs.Reasons.{IsReason, needed_conjectures}
use Rattle.rml_reasons.specs.declared.reason.Need.{Need}
use Rattle.rml_reasons.specs.declared.reason.Lack.{Lack}
use Rattle.rml_reasons.specs.declared.reason.Lack.TheVariants.{Fails, Open}
use Rattle.rml_reasons.specs.declared.reason.Carried.{Carried}
use Rattle.rml_reasons.specs.declared.reason.Carried.TheVariants.{By, Not}
use Rattle.model_reasons.specs.Reasons.{head_of, AreReasons}
use Rattle.model_reasons.specs.Idle.{idle_conjectures}
use Rattle.model_reasons.specs.declared.reason.Reason.{Reason}

-- A group that is carried, and is not about an idle conjecture, is carried by conjectures none of which is idle.
abbrev pub IdleCarryNoOther : Type 0
IdleCarryNoOther = (limits : Ceilings) (m : ModelTree) (reasons : List Reason) (r : Reason) (needs : List Need)
    → AreReasons limits m reasons → SomeOf (λ x. x ≡ r) reasons → r.carried ≡ By needs
    → ((k : ℕ) → r.about ≡ about.Conjecture k → Has (idle_conjectures m reasons) k → ⊥)
    → IsReason limits m (head_of r) (needed_conjectures needs)
    × ((k : ℕ) → Has (needed_conjectures needs) k → Has (idle_conjectures m reasons) k → ⊥)

-- what is shown of a lack is an execution of the model
abbrev pub LackIsShown : ModelTree → Lack → Type 0
LackIsShown m (Fails shown) = IsExecution m shown
LackIsShown m (Open goal c) = Unit {0}

-- so is each lack that is told of a group
abbrev pub CarriedIsShown : ModelTree → Carried → Type 0
CarriedIsShown m (By needs) = AllByRecursion (λ n. LackIsShown m n.lack) needs
CarriedIsShown m (Not lack) = LackIsShown m lack

-- Each lack of the reasons is shown.
abbrev pub ReasonsAreShown : Type 0
ReasonsAreShown = (limits : Ceilings) (m : ModelTree) (reasons : List Reason) → AreReasons limits m reasons
    → AllByRecursion (λ r. CarriedIsShown m r.carried) reasons
