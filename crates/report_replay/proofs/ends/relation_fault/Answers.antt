use Rattle.std.proofs.Common.{◌≡◌, ◌+◌, true, false, sym, ◌∙◌}
use Rattle.report_replay.specs.Demands.{same_relation}
use Rattle.report_replay.specs.declared.denial.DenialCode.TheVariants as denial
use Rattle.report_replay.proofs.Unmet.{unmet_here, unmet_met}
use Rattle.report_replay.proofs.ends.relation_fault.Goals as goal

pub returns-then-not-same : goal.returns-then-not-same
returns-then-not-same c =
    let told : c.in_ok-same.same ≡ same_relation c.args.after.now c.args.end.now c.loop-rel.rel =
    c.in_ok-same.ensures in
    let met : c.in_ok-same.same ≡ false = c.if-not-same.true in
    unmet_here
    (λ r. record {
      line = c.args.line + r;
      code = denial.WrongEnd;
      met = same_relation c.args.after.now c.args.end.now
          r;
    })
    c.loop-rel.rel c.relation_count-count.result _ c.loop-rel-test.true (sym told ∙ met)
    c.loop-rel.invariant.first

pub loop-rel-preserved : goal.loop-rel-preserved
loop-rel-preserved c =
    let told : c.in_ok-same.same ≡ same_relation c.args.after.now c.args.end.now c.loop-rel.rel =
    c.in_ok-same.ensures in
    let met : c.in_ok-same.same ≡ true = c.if-not-same.false in
    record {
      count = c.loop-rel.invariant.count;
      first = unmet_met
          (λ r. record {
            line = c.args.line + r;
            code = denial.WrongEnd;
            met = same_relation c.args.after.now
                c.args.end.now r;
          })
          c.loop-rel.rel c.relation_count-count.result _ c.loop-rel-test.true (sym told ∙ met)
          c.loop-rel.invariant.first;
    }
