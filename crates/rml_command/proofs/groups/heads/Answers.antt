use Rattle.std.proofs.Common.{◌++◌, [], ◌∷◌, List, append_assoc}
use Rattle.std.specs.List.{flat_map}
use Rattle.rml_command.specs.Goals.{stage_groups, groups_of}
use Rattle.rml_command.specs.declared.goal.Head.{Head}
use Rattle.rml_command.specs.declared.goal.Stage.TheVariants as stage
use Rattle.rml_command.specs.declared.goal.About.TheVariants as about
use Rattle.rml_command.proofs.Pieces.{next_piece}
use Rattle.rml_command.proofs.groups.heads.Goals as goal

pub loop-a-preserved : goal.loop-a-preserved
loop-a-preserved c =
    let m = c.args.checked.now in
    let last : List Head = record { stage = stage.Final; about = about.Abort } ∷ [] in
    record {
      count = c.loop-a.invariant.count;
      heads = next_piece (λ ks. flat_map (λ a. stage_groups m (stage.Action a)) ks ++ last) c.loop-a.a _
          (stage_groups m (stage.Action c.loop-a.a)) c.loop-a.heads.items c.push_stage-in-loop-a.new.heads.items
          (groups_of m) c.loop-a-test.true
          (λ ks. append_assoc (stage_groups m (stage.Action c.loop-a.a))
          (flat_map (λ a. stage_groups m (stage.Action a)) ks) last)
          c.in_ok-push_stage-2.ensures c.loop-a.invariant.heads;
    }
