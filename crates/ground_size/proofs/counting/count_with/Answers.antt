use Rattle.ground_size.proofs.Counted.{AreLaws, counted}
use Rattle.ground_size.proofs.counting.count_with.Goals as goal

pub returns : goal.returns
returns c =
    let laws : AreLaws = record {
      kept = c.growth_laws.ensures.sorts;
      fits = c.exactness.ensures.fits;
      normal = c.exactness.ensures.normal;
      fragments = c.exactness.ensures.fragments;
      witnesses = c.exactness.ensures.witnesses;
      skolemised = c.exactness-2.ensures.models;
      sorts = c.witnesses.ensures.sorts;
    } in
    λ p ea fits are. counted laws c.args.signature.now p c.args.strata.now c.args.constants.now
    c.in_ok-terms.terms.items c.requires ea fits are c.in_ok-terms.ensures
