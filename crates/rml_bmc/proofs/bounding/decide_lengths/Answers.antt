use Rattle.std.proofs.Common.{◌+◌, sym, ◌∙◌, subst}
use Rattle.limits.specs.Ceilings.{ceilings}
use Rattle.rml_bmc.specs.Infeasible.{AreInfeasible}
use Rattle.rml_bmc.proofs.InOrder.{Completes, at_first, next, broken, at_last}
use Rattle.rml_bmc.proofs.bounding.decide_lengths.Goals as goal

pub loop-k-init : goal.loop-k-init
loop-k-init g c =
    record {
      answered = subst (λ ls. Completes c.args.counted (ceilings c.args.limits.now) c.args.checked.now
          (c.args.steps + 1) ls 0)
          (sym c.new-lengths.ensures) (at_first c.args.counted (ceilings c.args.limits.now) c.args.checked.now
          (c.args.steps + 1));
      known = subst (AreInfeasible c.args.checked.now) (sym c.new-infeasible.ensures) tt;
    }

pub loop-k-preserved : goal.loop-k-preserved
loop-k-preserved g c =
    record {
      answered = next c.args.counted (ceilings c.args.limits.now) c.args.checked.now (c.args.steps + 1) c.loop-k.k
          c.loop-k.lengths
          c.push.new.self c.in_ok-answer.answer c.loop-k-test.true c.in_ok-push.ensures.pushed
          (sym c.is_broken-broken.ensures ∙ c.if-broken.false) c.in_ok-answer.ensures.decided
          c.loop-k.invariant.answered;
      known = c.decide_length.ensures.after;
    }

pub returns-then-broken : goal.returns-then-broken
returns-then-broken g c =
    broken c.args.counted (ceilings c.args.limits.now) c.args.checked.now (c.args.steps + 1) c.loop-k.k
    c.loop-k.lengths c.push.new.self
    c.in_ok-answer.answer c.in_ok-push.ensures.pushed
    (sym c.is_broken-broken.ensures ∙ c.if-broken.true) c.in_ok-answer.ensures.decided c.loop-k.invariant.answered

pub returns : goal.returns
returns g c =
    at_last c.args.counted (ceilings c.args.limits.now) c.args.checked.now (c.args.steps + 1) c.loop-k.k
    c.loop-k.lengths
    c.loop-k-test.false c.loop-k.invariant.answered
