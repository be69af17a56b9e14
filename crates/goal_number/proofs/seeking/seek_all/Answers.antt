use Rattle.std.proofs.Common.{◌≡◌, [], ◌∷◌, sym, subst}
use Rattle.rml_command.specs.Goals.{group_goals, stage_groups, goals_of}
use Rattle.rml_command.specs.declared.goal.Stage.TheVariants as stage
use Rattle.rml_command.specs.declared.goal.About.TheVariants as about
use Rattle.goal_number.specs.Seeking.{seek, IsPlace}
use Rattle.goal_number.specs.declared.seeking.Sought.TheVariants.{Left}
use Rattle.goal_number.proofs.Counting.{first_groups, next_groups, last_group, is_place}
use Rattle.goal_number.proofs.seeking.seek_all.Goals as goal

pub loop-a-init : goal.loop-a-init
loop-a-init c =
    record {
      count = c.action_count-count.ensures;
      place = first_groups (group_goals c.args.checked.now) (λ a. stage_groups c.args.checked.now (stage.Action a)) _ _
          (Left c.args.place)
          c.seek_stage-sought.result (stage_groups c.args.checked.now stage.Init)
          (record { stage = stage.Final; about = about.Abort } ∷ [])
          c.action_count-count.ensures c.seek_stage-sought.ensures.place;
      goal = c.seek_stage-sought.ensures.goal tt;
    }

pub loop-a-preserved : goal.loop-a-preserved
loop-a-preserved c = record {
  count = c.loop-a.invariant.count;
  place = next_groups (group_goals c.args.checked.now) (λ a. stage_groups c.args.checked.now (stage.Action a))
      c.loop-a.a _
      c.loop-a.sought c.seek_stage-sought-in-loop-a.result _ (record { stage = stage.Final; about = about.Abort } ∷ [])
      c.loop-a-test.true c.seek_stage-sought-in-loop-a.ensures.place c.loop-a.invariant.place;
  goal = c.seek_stage-sought-in-loop-a.ensures.goal c.loop-a.invariant.goal;
}

pub returns : goal.returns
returns c =
    let goals = goals_of c.args.checked.now in
    let e : c.seek_group.result ≡ seek c.args.place (goals_of c.args.checked.now) =
    last_group (group_goals c.args.checked.now) (λ a. stage_groups c.args.checked.now (stage.Action a)) c.loop-a.a _
    c.loop-a.sought c.seek_group.result _ (record { stage = stage.Final; about = about.Abort }) c.loop-a-test.false
    c.seek_group.ensures.place c.loop-a.invariant.place in (
      subst (IsPlace (goals_of c.args.checked.now) c.args.place) (sym e)
          (is_place c.args.place (goals_of c.args.checked.now)),
      c.seek_group.ensures.goal c.loop-a.invariant.goal,
    )
