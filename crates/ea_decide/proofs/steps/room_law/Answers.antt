use Rattle.ea_decide.proofs.Fragments.{Rewriting}
use Rattle.ea_decide.proofs.Numbers.{Counting, room}
use Rattle.ea_decide.proofs.steps.room_law.Goals as goal

pub returns : goal.returns
returns c =
    let rewriting : Rewriting = record {
      sorts = c.growth_laws.ensures.sorts;
      truth = c.exactness.ensures.truth;
      fits = c.exactness.ensures.fits;
      normal = c.exactness.ensures.normal;
      fragments = c.exactness.ensures.fragments;
      models = c.exactness-2.ensures.models;
      universal = c.exactness-2.ensures.universal;
    } in
    let counting : Counting = record {
      counted = c.count_laws.ensures.counted;
      one = c.count_laws.ensures.counts;
      few = c.count_laws.ensures.few;
      instances = c.size_laws.ensures.instances;
      axioms = c.size_laws.ensures.axioms;
      variables = c.size_laws-2.ensures.variables;
      clauses = c.size_laws-2.ensures.clauses;
    } in
    λ limits sig p order given terms size passes. room rewriting counting limits sig p order given terms size passes
