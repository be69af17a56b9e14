use Rattle.std.proofs.Common.{◌≡◌, ◌+◌, true, false, sym, ◌∙◌}
use Rattle.report_replay.specs.Demands.{same_function}
use Rattle.report_replay.specs.declared.denial.DenialCode.TheVariants as denial
use Rattle.report_replay.proofs.Unmet.{unmet_here, unmet_met}
use Rattle.report_replay.proofs.ends.function_fault.Goals as goal

pub returns-then-not-same : goal.returns-then-not-same
returns-then-not-same c =
    let told : c.in_ok-same.same ≡ same_function c.args.after.now c.args.end.now c.loop-fun.fun =
    c.in_ok-same.ensures in
    let met : c.in_ok-same.same ≡ false = c.if-not-same.true in
    unmet_here
    (λ r. record {
      line = c.args.line + r;
      code = denial.WrongEnd;
      met = same_function c.args.after.now c.args.end.now
          r;
    })
    c.loop-fun.fun c.function_count-count.result _ c.loop-fun-test.true (sym told ∙ met)
    c.loop-fun.invariant.first

pub loop-fun-preserved : goal.loop-fun-preserved
loop-fun-preserved c =
    let told : c.in_ok-same.same ≡ same_function c.args.after.now c.args.end.now c.loop-fun.fun =
    c.in_ok-same.ensures in
    let met : c.in_ok-same.same ≡ true = c.if-not-same.false in
    record {
      count = c.loop-fun.invariant.count;
      first = unmet_met
          (λ r. record {
            line = c.args.line + r;
            code = denial.WrongEnd;
            met = same_function c.args.after.now
                c.args.end.now r;
          })
          c.loop-fun.fun c.function_count-count.result _ c.loop-fun-test.true (sym told ∙ met)
          c.loop-fun.invariant.first;
    }
