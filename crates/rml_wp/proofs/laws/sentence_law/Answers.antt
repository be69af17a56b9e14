use Rattle.rml_wp.proofs.Added.{sentences_fit, no_parts, conjectures_are_added}
use Rattle.rml_wp.proofs.laws.sentence_law.Goals as goal

pub returns-clause-fit : goal.returns-clause-fit
returns-clause-fit c =
    sentences_fit (record {
      follows = record {
        all_below = c.quantified.ensures.all;
        any_below = c.quantified.ensures.any;
        replaces = record {
          keeps = c.exactness.ensures;
          bound = c.indices.ensures.bound;
          reads = c.indices.ensures.truth;
          fits = c.indices.ensures.fits;
        };
        keep = c.update_law.ensures;
        followed = c.path_law.ensures.followed;
        kind = c.path_law.ensures.kind;
        values = c.value_law.ensures;
        goals = c.goal_law.ensures.fit;
        stops = c.path_law.ensures.last;
        taken = c.path_law.ensures.elements;
        reduces = c.growth_laws.ensures.reduce;
        own = c.growth.ensures.truth;
        fitting = c.growth.ensures.fitting;
        fresh = c.fresh_law.ensures.followed;
        written = c.fresh_law.ensures.written;
        grow = c.fresh_law.ensures.signatures;
      };
      replaces = record {
        keeps = c.exactness.ensures;
        bound = c.indices.ensures.bound;
        reads = c.indices.ensures.truth;
        fits = c.indices.ensures.fits;
      };
      goals = c.goal_law.ensures.fit;
      stays = c.fragment_law.ensures;
      universal = c.inclusion.ensures.universal;
      universal_ae = c.inclusion.ensures.universal_ae;
    })

pub returns-clause-alone : goal.returns-clause-alone
returns-clause-alone c = no_parts

pub returns-clause-conjectures : goal.returns-clause-conjectures
returns-clause-conjectures c = conjectures_are_added
