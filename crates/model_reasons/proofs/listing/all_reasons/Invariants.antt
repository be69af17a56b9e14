use Rattle.std.proofs.Common.{◌≡◌, ◌++◌, drop, map}
use Rattle.std.specs.List.{AllByRecursion}
use Rattle.rml_command.specs.Goals.{HasAbout}
use Rattle.limits.specs.Ceilings.{ceilings}
use Rattle.model_reasons.specs.Reasons.{head_of, IsCarriedSo}
use Rattle.model_reasons.proofs.listing.all_reasons.Given as goal

abbrev pub invariant-loop-head : goal.invariant-loop-head
invariant-loop-head g l = record {
  known : AllByRecursion (λ h. HasAbout l.fn.checked h.stage h.about) (drop l.head-index l.heads);
  heads : map head_of l.reasons.items ++ drop l.head-index l.heads ≡ l.heads;
  carried : AllByRecursion (IsCarriedSo (ceilings l.fn.limits) l.fn.checked) l.reasons.items;
}
