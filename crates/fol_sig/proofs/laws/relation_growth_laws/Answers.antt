use Rattle.fol_sig.proofs.GrownTables.{signatures_grow_by_relations, structures_extend_by_tables}
use Rattle.fol_sig.proofs.GrownTables.{structures_are_extensions_by_tables, reducts_commute_with_updates}
use Rattle.fol_sig.proofs.laws.relation_growth_laws.Goals as goal

pub returns : goal.returns
returns c = record {
  signatures = signatures_grow_by_relations;
  extend = structures_extend_by_tables;
  all = structures_are_extensions_by_tables;
  updates = reducts_commute_with_updates;
}
