use Rattle.rml_command.specs.Goals.{HasAbout}
use Rattle.rml_command.specs.declared.goal.About.TheVariants as about
use Rattle.rml_command.specs.declared.goal.Head.{Head}
use Rattle.rml_command.specs.declared.goal.Stage.TheVariants as stage
use Rattle.limits.specs.Ceilings.{ceilings}
use Rattle.model_reasons.specs.Reasons.{head_of, IsCarriedSo}
use Rattle.model_reasons.proofs.Pieces.{pushed_all, next_head, left_all}
use Rattle.model_reasons.proofs.listing.all_reasons.Goals as goal

abbrev any : Head
any = record { stage = stage.Init; about = about.Abort }

pub loop-head-preserved : goal.loop-head-preserved
loop-head-preserved g c =
    let old = c.loop-head.reasons.items in
    let new = c.push.new.self.items in
    let reason = c.in_ok-reason.field-0 in
    record {
      known = left_all (λ (h : Head). HasAbout c.args.checked.now h.stage h.about) c.args.heads.now
          c.loop-head.head-index any c.loop-head-test.true c.loop-head.invariant.known;
      heads = next_head head_of c.args.heads.now c.loop-head.head-index _ old new reason c.loop-head-test.true
          c.in_ok-push.ensures.items c.in_ok-reason.ensures.head c.loop-head.invariant.heads;
      carried = pushed_all (IsCarriedSo (ceilings c.args.limits.now) c.args.checked.now) old new reason
          c.in_ok-push.ensures.items c.in_ok-reason.ensures.carried c.loop-head.invariant.carried;
    }
