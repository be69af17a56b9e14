use Rattle.rml_command.specs.Goals.{group_goals}
use Rattle.rml_command.specs.declared.goal.About.TheVariants as about
use Rattle.goal_number.proofs.Counting.{first_group, next_group, no_group}
use Rattle.goal_number.proofs.seeking.seek_stage.Goals as goal

pub loop-k-init : goal.loop-k-init
loop-k-init c =
    record {
      count = c.conjecture_count-count.ensures;
      place = first_group (group_goals c.args.checked.now)
          (λ k. record { stage = c.args.stage; about = about.Conjecture k }) _ _ c.args.before
          c.seek_group-sought.result (record { stage = c.args.stage; about = about.Abort })
          c.conjecture_count-count.ensures c.seek_group-sought.ensures.place;
      goal = c.seek_group-sought.ensures.goal;
    }

pub loop-k-preserved : goal.loop-k-preserved
loop-k-preserved c = record {
  count = c.loop-k.invariant.count;
  place = next_group (group_goals c.args.checked.now) (λ k. record { stage = c.args.stage; about = about.Conjecture k })
      c.loop-k.k _
      c.loop-k.sought c.seek_group-sought-in-loop-k.result _ c.loop-k-test.true
      c.seek_group-sought-in-loop-k.ensures.place
      c.loop-k.invariant.place;
  goal = λ h. c.seek_group-sought-in-loop-k.ensures.goal (c.loop-k.invariant.goal h);
}

pub returns-clause-place : goal.returns-clause-place
returns-clause-place c =
    no_group (group_goals c.args.checked.now) (λ k. record { stage = c.args.stage; about = about.Conjecture k })
    c.loop-k.k _
    c.loop-k.sought _ c.loop-k-test.false c.loop-k.invariant.place
