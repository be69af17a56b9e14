use Rattle.std.proofs.Common.{◌<◌, ◌≤◌, ℕ, length, arith}
use Rattle.lrat_check.specs.declared.spans.Span.{Span}
use Rattle.lrat_check.proofs.Search.{below_mid, above_mid, not_found}
use Rattle.lrat_check.proofs.spans.find.Goals as goal
use Rattle.lrat_check.proofs.spans.find.Goals.{else-low-spans-via-then-low-spans+else-spans-low}
use Rattle.lrat_check.proofs.spans.find.Goals.{else-low-spans-via-else-low-spans}

pub loop-low-preserved-then-spans-mid : goal.loop-low-preserved-then-spans-mid
loop-low-preserved-then-spans-mid c = record {
  ordered = omega arith;
  within = omega arith;
  below = below_mid _ _ _ _ c.requires (omega arith) c.if-spans-mid.true;
  above = c.loop-low.invariant.above;
}

pub loop-low-preserved : goal.loop-low-preserved
loop-low-preserved c = record {
  ordered = omega arith;
  within = omega arith;
  below = c.loop-low.invariant.below;
  above = above_mid _ _ _ _ c.requires (omega arith) c.if-spans-mid.false;
}

pub returns-else-low-spans-clause-none : goal.returns-else-low-spans-clause-none
returns-else-low-spans-clause-none c =
    let above = λ (k : ℕ) (d : Span) (l : c.loop-low.low ≤ k) (g : k < length c.args.spans.now).
    c.loop-low.invariant.above k d (omega arith) g in
    elim c.else-low-spans.branch [
      | else-low-spans-via-then-low-spans+else-spans-low w ↦
          not_found _ _ c.loop-low.low _ c.requires c.loop-low.invariant.below above (λ _ q. w.if-spans-low.false q)
      | else-low-spans-via-else-low-spans w ↦ λ k d h q.
          not_found c.args.spans.now c.args.id c.loop-low.low d c.requires c.loop-low.invariant.below above
          (λ g _. omega arith) k d h q
    ]
