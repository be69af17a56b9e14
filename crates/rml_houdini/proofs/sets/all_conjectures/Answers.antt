use Rattle.std.proofs.Common.{◌∙◌, ap}
use Rattle.base.specs.Lists.{count_from}
use Rattle.rml_houdini.proofs.Drops.{pushed_count, whole_count}
use Rattle.rml_houdini.proofs.sets.all_conjectures.Goals as goal

pub loop-k-preserved : goal.loop-k-preserved
loop-k-preserved c = record {
  count = c.loop-k.invariant.count;
  all = pushed_count c.loop-k.k _ c.loop-k.all.items c.push.new.self.items _ c.loop-k-test.true
      c.in_ok-push.ensures.items c.loop-k.invariant.all;
}

pub returns : goal.returns
returns c =
    whole_count c.loop-k.k _ c.loop-k.all.items _ c.loop-k-test.false c.loop-k.invariant.all
    ∙ ap (count_from 0) c.loop-k.invariant.count
