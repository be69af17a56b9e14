use Rattle.rml_command.specs.Goals.{HasAbout}
use Rattle.rml_command.specs.declared.goal.About.TheVariants as about
use Rattle.rml_command.specs.declared.goal.Head.{Head}
use Rattle.rml_command.specs.declared.goal.Stage.TheVariants as stage
use Rattle.rml_report.specs.Reports.{head_of}
use Rattle.limits.specs.Ceilings.{ceilings}
use Rattle.verdicts.specs.Answers.{IsGroupNow}
use Rattle.verdicts.proofs.Groups.{pushed_all, next_head, left_all}
use Rattle.verdicts.proofs.reporting.decide_all.Goals as goal

abbrev any : Head
any = record { stage = stage.Init; about = about.Abort }

pub loop-head-preserved : goal.loop-head-preserved
loop-head-preserved g c =
    let old = c.loop-head.groups.items in
    let new = c.push.new.self.items in
    let group = c.in_ok-decide_group.field-0 in
    record {
      shared = c.in_ok-decide_group.ensures.shared;
      known = left_all (λ (h : Head). HasAbout c.args.checked.now h.stage h.about) c.args.heads.now
          c.loop-head.head-index any c.loop-head-test.true c.loop-head.invariant.known;
      heads = next_head head_of c.args.heads.now c.loop-head.head-index _ old new group c.loop-head-test.true
          c.in_ok-push.ensures.items c.in_ok-decide_group.ensures.head c.loop-head.invariant.heads;
      now = pushed_all (IsGroupNow c.args.counted (ceilings c.args.limits.now) c.args.checked.now) old new group
          c.in_ok-push.ensures.items c.loop-head.invariant.now c.in_ok-decide_group.ensures.now;
    }
