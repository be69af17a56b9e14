use Rattle.rml_wp.proofs.Cuts.{signatures_are_answered, counterexamples_are_cuts}
use Rattle.rml_wp.proofs.laws.answered_law.Goals as goal

pub returns-clause-answered : goal.returns-clause-answered
returns-clause-answered c =
    signatures_are_answered (record {
      all_below = c.quantified.ensures.all;
      any_below = c.quantified.ensures.any;
      replaces = record {
        keeps = c.exactness.ensures;
        bound = c.indices.ensures.bound;
        reads = c.indices.ensures.truth;
        fits = c.indices.ensures.fits;
      };
      keep = c.update_law.ensures;
      followed = c.path_law.ensures.followed;
      kind = c.path_law.ensures.kind;
      values = c.value_law.ensures;
      goals = c.goal_law.ensures.fit;
      stops = c.path_law.ensures.last;
      taken = c.path_law.ensures.elements;
      reduces = c.growth_laws.ensures.reduce;
      own = c.growth.ensures.truth;
      fitting = c.growth.ensures.fitting;
      fresh = c.fresh_law.ensures.followed;
      written = c.fresh_law.ensures.written;
      grow = c.fresh_law.ensures.signatures;
    }) c.growth_laws.ensures.sorts

pub returns-clause-cuts : goal.returns-clause-cuts
returns-clause-cuts c =
    counterexamples_are_cuts (record {
      all_below = c.quantified.ensures.all;
      any_below = c.quantified.ensures.any;
      replaces = record {
        keeps = c.exactness.ensures;
        bound = c.indices.ensures.bound;
        reads = c.indices.ensures.truth;
        fits = c.indices.ensures.fits;
      };
      keep = c.update_law.ensures;
      followed = c.path_law.ensures.followed;
      kind = c.path_law.ensures.kind;
      values = c.value_law.ensures;
      goals = c.goal_law.ensures.fit;
      stops = c.path_law.ensures.last;
      taken = c.path_law.ensures.elements;
      reduces = c.growth_laws.ensures.reduce;
      own = c.growth.ensures.truth;
      fitting = c.growth.ensures.fitting;
      fresh = c.fresh_law.ensures.followed;
      written = c.fresh_law.ensures.written;
      grow = c.fresh_law.ensures.signatures;
    })
    (record {
      keep = c.update_law.ensures;
      updates = c.update_laws.ensures.relations;
      extensional = c.tuple_set_laws.ensures.extensional;
      sets = c.tuple_set_laws.ensures.tuples;
    }) c.relation_growth_laws.ensures.extend
    (record {
      reads = c.occurring.ensures.truth;
      relations = c.update_laws.ensures.relations;
      functions = c.update_laws.ensures.functions;
    })
