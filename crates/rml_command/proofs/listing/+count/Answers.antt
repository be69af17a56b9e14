use Rattle.std.proofs.Common.{arith}
use Rattle.rml_command.proofs.Loops.{next-onward, next-stopped, branch-onward, branch-stopped}
use Rattle.rml_command.proofs.listing.+count.Goals as goal

pub count_in_turn-loop-part-preserved : goal.count_in_turn-loop-part-preserved
count_in_turn-loop-part-preserved t c =
    let h = c.loop-part.invariant in
    record {
      few_open = omega (arith, c.product-onward.ensures);
      few_stopped = omega (arith, c.sum-stopped.ensures);
      onward = next-onward c.args.parts.now c.loop-part.part-index c.part-item.result c.loop-part-test.true
          c.part-item.is c.loop-part.onward c.count-next.result.onward c.product-onward.result _
          c.count-next.ensures.onward c.product-onward.ensures h.onward;
      stopped = next-stopped c.args.parts.now c.loop-part.part-index c.part-item.result c.loop-part-test.true
          c.part-item.is c.loop-part.stopped c.loop-part.onward c.count-next.result.stopped c.count-next.result.onward
          c.product.result c.sum-stopped.result c.product-onward.result _ c.count-next.ensures.stopped
          c.count-next.ensures.onward c.product.ensures c.sum-stopped.ensures c.product-onward.ensures h.stopped;
    }

pub count_of_each-loop-branch-preserved : goal.count_of_each-loop-branch-preserved
count_of_each-loop-branch-preserved t c =
    let h = c.loop-branch.invariant in
    record {
      few_open = omega (arith, c.sum-onward.ensures);
      few_stopped = omega (arith, c.sum-stopped.ensures);
      onward = branch-onward c.args.branches.now c.loop-branch.branch-index c.branch-item.result c.loop-branch-test.true
          c.branch-item.is c.loop-branch.onward c.count-next.result.onward c.sum-onward.result _
          c.count-next.ensures.onward c.sum-onward.ensures h.onward;
      stopped = branch-stopped c.args.branches.now c.loop-branch.branch-index c.branch-item.result
          c.loop-branch-test.true c.branch-item.is c.loop-branch.stopped c.count-next.result.stopped
          c.sum-stopped.result _ c.count-next.ensures.stopped c.sum-stopped.ensures h.stopped;
    }
