use Rattle.std.proofs.Common.{sym, subst}
use Rattle.fol_pool.specs.Trees.{form_at}
use Rattle.ground_size.specs.Counting.{AreCounted}
use Rattle.ground_size.specs.Existentials.{AreConstants}
use Rattle.pool_size.proofs.size.ground_size.Goals as goal

pub returns : goal.returns
returns c =
    let sig = c.args.signature.now in
    let p = form_at c.args.pool.now c.args.sentence.0 in
    let found : AreCounted sig p c.in_ok-counts.counts =
    c.in_ok-counts.ensures p c.requires.fragment c.requires.fits
    (subst (AreConstants sig.sorts p) (sym c.deref.ensures.value) c.in_ok-constants.ensures) in
    record {
      counts = found.counts;
      are = found.terms;
      terms = c.total.ensures found.counts found.capped;
      size = c.with_axioms.ensures found.counts p found.capped c.in_ok-nodes.ensures;
    }
