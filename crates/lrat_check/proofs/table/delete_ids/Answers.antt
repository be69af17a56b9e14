use Rattle.std.proofs.Common.{arith, ◌∙◌}
use Rattle.lrat_check.specs.Spans.{held_in}
use Rattle.lrat_check.proofs.Deletion.{delete_more}
use Rattle.lrat_check.proofs.table.delete_ids.Goals as goal

pub loop-id-preserved : goal.loop-id-preserved
loop-id-preserved c = record {
  held = λ literals. delete_more (held_in literals c.args.spans.now) (held_in literals c.loop-id.spans)
      (held_in literals c.delete_id.new.spans) c.args.ids.now c.loop-id.id-index (omega arith)
      (c.loop-id.invariant.held literals) (c.delete_id.ensures.held literals);
  sorted = c.delete_id.ensures.sorted;
  within = λ n h. c.delete_id.ensures.within n (c.loop-id.invariant.within n h);
  ids = λ k d. c.delete_id.ensures.ids k d ∙ c.loop-id.invariant.ids k d;
}
