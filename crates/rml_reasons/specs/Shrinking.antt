-- What is known on the way to a minimal reason. Private contracts alone cite this.
use Rattle.std.specs.Prelude.{◌≡◌, ℕ, List, Option, Some, None}
use Rattle.std.specs.List.{AllByRecursion}
use Rattle.rml_command.specs.Models.{ModelTree}
use Rattle.rml_command.specs.declared.goal.Head.{Head}
use Rattle.limits.specs.Ceilings.{Ceilings}
use Rattle.rml_command.specs.InductiveSets.{Has}
use Rattle.rml_reasons.specs.Reasons.{AreConjectures, IsLack, IsReason, needed_conjectures, without}
use Rattle.rml_reasons.specs.declared.reason.Lack.{Lack}
use Rattle.rml_reasons.specs.declared.needs.Judged.{Judged}
use Rattle.rml_reasons.specs.declared.needs.Judged.TheVariants.{Needed, Superfluous}

-- conjectures that carry the group
abbrev pub Carry : Ceilings → ModelTree → Head → List ℕ → Type 0
Carry limits m group ks = AreConjectures m ks × IsReason limits m group ks

-- what the group lacks where these hold, if it lacks something
abbrev pub HasLack : Ceilings → ModelTree → Head → List ℕ → Option Lack → Type 0
HasLack limits m group ks None = IsReason limits m group ks
HasLack limits m group ks (Some lack) = IsLack limits m group ks lack

-- each of these is needed, or one is not
abbrev pub IsJudged : Ceilings → ModelTree → Head → List ℕ → Judged → Type 0
IsJudged limits m group ks (Needed needs) =
    (needed_conjectures needs ≡ ks) × AllByRecursion (λ n. IsLack limits m group (without n.conjecture ks) n.lack) needs
IsJudged limits m group ks (Superfluous k) = Has ks k × IsReason limits m group (without k ks)
