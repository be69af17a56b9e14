-- What shows a lack is an execution of the model.
use Rattle.std.proofs.Common.{ℕ, List, [], ◌∷◌}
use Rattle.std.specs.List.{AllByRecursion}
use Rattle.rml_command.specs.Models.{ModelTree}
use Rattle.rml_command.specs.declared.goal.Head.{Head}
use Rattle.limits.specs.Ceilings.{Ceilings}
use Rattle.rml_reasons.specs.Reasons.{IsLack, IsCarried, without}
use Rattle.rml_reasons.specs.declared.reason.Lack.{Lack}
use Rattle.rml_reasons.specs.declared.reason.Lack.TheVariants.{Fails, Open}
use Rattle.rml_reasons.specs.declared.reason.Need.{Need}
use Rattle.rml_reasons.specs.declared.reason.Carried.{Carried}
use Rattle.rml_reasons.specs.declared.reason.Carried.TheVariants.{By, Not}
use Rattle.model_reasons.specs.Reasons.{head_of, IsCarriedSo}
use Rattle.model_reasons.specs.Laws.{LackIsShown, CarriedIsShown, ReasonsAreShown}
use Rattle.model_reasons.specs.declared.reason.Reason.{Reason}

lack-shown : (limits : Ceilings) (m : ModelTree) (group : Head) (ks : List ℕ) (lack : Lack)
    → IsLack limits m group ks lack → LackIsShown m lack
lack-shown limits m group ks (Fails shown) h =
    record { goal = h.goal; structure = h.fails.refutes.structure }
lack-shown limits m group ks (Open goal c) h = tt

needs-shown : (limits : Ceilings) (m : ModelTree) (group : Head) (all : List ℕ) (needs : List Need)
    → AllByRecursion (λ n. IsLack limits m group (without n.conjecture all) n.lack) needs
    → AllByRecursion (λ n. LackIsShown m n.lack) needs
needs-shown limits m group all [] h = tt
needs-shown limits m group all (n ∷ ns) h = (
  lack-shown limits m group (without n.conjecture all) n.lack h.0,
  needs-shown limits m group all ns h.1,
)

carried-shown : (limits : Ceilings) (m : ModelTree) (group : Head) (c : Carried) → IsCarried limits m group c
    → CarriedIsShown m c
carried-shown limits m group (By needs) h = needs-shown limits m group _ needs h.needed
carried-shown limits m group (Not lack) h = lack-shown limits m group _ lack h

each-shown : (limits : Ceilings) (m : ModelTree) (reasons : List Reason)
    → AllByRecursion (IsCarriedSo limits m) reasons → AllByRecursion (λ r. CarriedIsShown m r.carried) reasons
each-shown limits m [] h = tt
each-shown limits m (r ∷ rs) h = (carried-shown limits m (head_of r) r.carried h.0, each-shown limits m rs h.1)

pub reasons_are_shown : ReasonsAreShown
reasons_are_shown limits m reasons are = each-shown limits m reasons are.carried
