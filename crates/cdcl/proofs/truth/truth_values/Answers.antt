use Rattle.std.proofs.Common.{◌∙◌, arith}
use Rattle.cdcl.specs.Trail.{is_set}
use Rattle.cdcl.proofs.Values.{values_more}
use Rattle.cdcl.proofs.truth.truth_values.Goals as goal

pub loop-index-preserved : goal.loop-index-preserved
loop-index-preserved c = record {
  len = c.in_ok-set.ensures.len ∙ c.loop-index.invariant.len;
  values = values_more c.loop-index.values c.set.new.self (is_set c.args.trail.now.steps) c.args.trail.now.size
      c.loop-index.index c.value.result c.loop-index.invariant.values c.value.ensures c.in_ok-set.ensures.ok;
}

pub returns-clause-values : goal.returns-clause-values
returns-clause-values c i p h s =
    c.loop-index.invariant.values.below i p (let g = c.greatest.ensures i s in omega arith) s
