use Rattle.ea_decide.proofs.Fragments.{Rewriting}
use Rattle.ea_decide.proofs.Meaning.{gives-values}
use Rattle.ea_decide.proofs.steps.values_law.Goals as goal

pub returns : goal.returns
returns c =
    let rewriting : Rewriting = record {
      sorts = c.growth_laws.ensures.sorts;
      truth = c.exactness.ensures.truth;
      fits = c.exactness.ensures.fits;
      normal = c.exactness.ensures.normal;
      fragments = c.exactness.ensures.fragments;
      models = c.exactness-2.ensures.models;
      universal = c.exactness-2.ensures.universal;
    } in
    λ sig p order lists s given closed fits holds.
    gives-values rewriting c.instance_laws.ensures.structures c.axiom_laws.ensures.structures c.clause_laws.ensures.up
    sig
    p order lists given closed s fits holds
