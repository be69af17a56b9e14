use Rattle.std.proofs.Common.{◌≡◌, ◌-◌, ◌++◌, [], ◌∷◌, length}
use Rattle.std.specs.List.{flat_map}
use Rattle.base.specs.Lists.{count_from}
use Rattle.rml_command.specs.Goals.{stage_groups, groups_of}
use Rattle.rml_command.specs.declared.goal.Stage.TheVariants as stage
use Rattle.rml_command.specs.declared.goal.About.TheVariants as about
use Rattle.rml_command.proofs.groups.heads.Given as goal

abbrev pub invariant-loop-a : goal.invariant-loop-a
invariant-loop-a l = record {
  count : l.count ≡ length l.checked.actions;
  heads : l.heads.items ++ (flat_map (λ a. stage_groups l.fn.checked (stage.Action a))
      (count_from l.a (l.count - l.a)) ++ record { stage = stage.Final; about = about.Abort } ∷ [])
      ≡ groups_of l.fn.checked;
}
