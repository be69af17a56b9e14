use Rattle.rml_command.proofs.Fresh.{Knows, fresh_tables_are_followed, written_paths_fit, fresh_signatures_grow}
use Rattle.rml_command.proofs.laws.fresh_law.Goals as goal

pub returns : goal.returns
returns c =
    let laws : Knows =
    record {
      reduces = c.growth_laws.ensures.reduce;
      stays = c.relation_growth_laws.ensures.updates;
      along = c.range_laws.ensures.along;
      same = c.tuple_set_laws.ensures.extensional;
      tuples = c.tuple_set_laws.ensures.tuples;
      fitting = c.growth.ensures.fitting;
      reads = c.growth.ensures.truth;
      keep = c.update_law.ensures;
    } in
    record {
      followed = fresh_tables_are_followed laws;
      written = written_paths_fit laws;
      signatures = fresh_signatures_grow c.relation_growth_laws.ensures.signatures;
    }
