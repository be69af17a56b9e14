use Rattle.ea_decide.proofs.Fragments.{Rewriting, strata}
use Rattle.ea_decide.proofs.steps.strata_law.Goals as goal

pub returns : goal.returns
returns c =
    let rewriting : Rewriting = record {
      sorts = c.growth_laws.ensures.sorts;
      truth = c.exactness.ensures.truth;
      fits = c.exactness.ensures.fits;
      normal = c.exactness.ensures.normal;
      fragments = c.exactness.ensures.fragments;
      models = c.exactness-2.ensures.models;
      universal = c.exactness-2.ensures.universal;
    } in
    λ sig p order given. strata rewriting sig p order given
