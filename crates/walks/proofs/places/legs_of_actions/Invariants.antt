use Rattle.std.proofs.Common.{◌≡◌, ◌-◌, ◌++◌, length}
use Rattle.std.specs.List.{flat_map}
use Rattle.base.specs.Lists.{count_from}
use Rattle.rml_command.specs.declared.goal.Stage.TheVariants as stage
use Rattle.walks.specs.Walks.{stage_legs, action_legs}
use Rattle.walks.specs.Kinds.{test_of}
use Rattle.walks.proofs.places.legs_of_actions.Given as goal

-- the actions that are left give the rest of the legs
abbrev pub invariant-loop-action : goal.invariant-loop-action
invariant-loop-action l = record {
  count : l.count ≡ length l.checked.actions;
  legs : l.legs.items ++ flat_map (λ a. stage_legs l.fn.checked (test_of l.fn.kind) (stage.Action a))
      (count_from l.action (l.count - l.action)) ≡ action_legs l.fn.checked (test_of l.fn.kind);
}
