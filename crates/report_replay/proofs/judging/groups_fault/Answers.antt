use Rattle.std.proofs.Common.{◌≡◌, ℕ, ◌+◌, ◌<◌, List, ◌∷◌, length, get_or, drop, Some, None, Option, sym, ap, ◌∙◌}
use Rattle.std.proofs.Common.{subst}
use Rattle.std.specs.List.{AllByRecursion, flat_map}
use Rattle.std.specs.Option.{option_or}
use Rattle.base.proofs.Lists.{drop_read}
use Rattle.rml_command.specs.Models.{ModelTree}
use Rattle.printed_report.specs.declared.printed.PrintedGroup.{PrintedGroup}
use Rattle.report_replay.specs.Demands.{group_demands}
use Rattle.report_replay.specs.Judgements.{first_unmet}
use Rattle.report_replay.specs.Judging.{CanReplay}
use Rattle.report_replay.specs.declared.judged.Fault.{Fault}
use Rattle.report_replay.proofs.Unmet.{unmet_append}
use Rattle.report_replay.proofs.judging.groups_fault.Goals as goal

module _ (m : ModelTree) (gs : List PrintedGroup) (i : ℕ) (g : PrintedGroup) (lt : i < length gs)
    (is : g ≡ get_or gs i g) where
  turn : first_unmet (flat_map (group_demands m) (drop i gs))
      ≡ option_or (first_unmet (group_demands m g)) (first_unmet (flat_map (group_demands m) (drop (i + 1) gs)))
  turn =
      ap (λ l. first_unmet (flat_map (group_demands m) l)) (drop_read gs i g lt is)
      ∙ unmet_append (group_demands m g) (flat_map (group_demands m) (drop (i + 1) gs))

  here : (o : Option Fault) (f : Fault) (whole : Option Fault) → o ≡ first_unmet (group_demands m g) → o ≡ Some f
      → first_unmet (flat_map (group_demands m) (drop i gs)) ≡ whole → Some f ≡ whole
  here o f whole told e h =
      sym (ap (λ p. option_or p (first_unmet (flat_map (group_demands m) (drop (i + 1) gs)))) (sym told ∙ e)) ∙ sym turn
      ∙ h

  next : (o : Option Fault) (whole : Option Fault) → o ≡ first_unmet (group_demands m g) → o ≡ None
      → first_unmet (flat_map (group_demands m) (drop i gs)) ≡ whole
      → first_unmet (flat_map (group_demands m) (drop (i + 1) gs)) ≡ whole
  next o whole told e h =
      sym (ap (λ p. option_or p (first_unmet (flat_map (group_demands m) (drop (i + 1) gs)))) (sym told ∙ e)) ∙ sym turn
      ∙ h

  all : AllByRecursion (CanReplay m) (drop i gs) → AllByRecursion (CanReplay m) (g ∷ drop (i + 1) gs)
  all h = subst (AllByRecursion (CanReplay m)) (drop_read gs i g lt is) h

pub group_fault-requires : goal.group_fault-requires
group_fault-requires c =
    (all c.args.checked.now c.args.groups.now c.loop-group.group-index c.group-item.result c.loop-group-test.true
    c.group-item.is c.loop-group.invariant.ready).0

pub returns-in-Some : goal.returns-in-Some
returns-in-Some c =
    here c.args.checked.now c.args.groups.now c.loop-group.group-index c.group-item.result c.loop-group-test.true
    c.group-item.is c.in_ok-fault.field-0 c.in-Some.fault _ c.in_ok-fault.ensures c.in-Some.is
    c.loop-group.invariant.first

pub loop-group-preserved : goal.loop-group-preserved
loop-group-preserved c = record {
  first = next c.args.checked.now c.args.groups.now c.loop-group.group-index c.group-item.result c.loop-group-test.true
      c.group-item.is c.in_ok-fault.field-0 _ c.in_ok-fault.ensures c.in_default.is c.loop-group.invariant.first;
  ready = (all c.args.checked.now c.args.groups.now c.loop-group.group-index c.group-item.result c.loop-group-test.true
      c.group-item.is c.loop-group.invariant.ready).1;
}
