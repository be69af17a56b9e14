use Rattle.rml_wp.proofs.OverFresh.{lean_same}
use Rattle.rml_wp.proofs.Affected.{affected_suffice}
use Rattle.rml_wp.proofs.laws.premises_law.Goals as goal

pub returns-clause-precondition : goal.returns-clause-precondition
returns-clause-precondition c =
    affected_suffice
    (record {
      reads = c.occurring.ensures.truth;
      relations = c.update_laws.ensures.relations;
      functions = c.update_laws.ensures.functions;
    })
    (record {
      keeps = c.exactness.ensures;
      bound = c.indices.ensures.bound;
      reads = c.indices.ensures.truth;
      fits = c.indices.ensures.fits;
    }) c.update_law.ensures

pub returns-clause-refuting : goal.returns-clause-refuting
returns-clause-refuting c =
    lean_same (record {
      all_below = c.quantified.ensures.all;
      any_below = c.quantified.ensures.any;
      replaces = record {
        keeps = c.exactness.ensures;
        bound = c.indices.ensures.bound;
        reads = c.indices.ensures.truth;
        fits = c.indices.ensures.fits;
      };
      keep = c.update_law.ensures;
      followed = c.path_law.ensures.followed;
      kind = c.path_law.ensures.kind;
      values = c.value_law.ensures;
      goals = c.goal_law.ensures.fit;
      stops = c.path_law.ensures.last;
      taken = c.path_law.ensures.elements;
      reduces = c.growth_laws.ensures.reduce;
      own = c.growth.ensures.truth;
      fitting = c.growth.ensures.fitting;
      fresh = c.fresh_law.ensures.followed;
      written = c.fresh_law.ensures.written;
      grow = c.fresh_law.ensures.signatures;
    })
    (record {
      reads = c.occurring.ensures.truth;
      relations = c.update_laws.ensures.relations;
      functions = c.update_laws.ensures.functions;
    })
