use Rattle.std.proofs.Common.{subst}
use Rattle.fol_sig.specs.Tables.{Tables, IsStructure}
use Rattle.fol_sig.proofs.Sets.{relation_is_written, relation_is_set}
use Rattle.fol_sig.proofs.structure.Structure.set_rel.Goals as goal

pub returns-clause-value : goal.returns-clause-value
returns-clause-value c =
    let inside : Tables =
    record {
      sizes = c.self.inside.sizes.items;
      relations = c.self.inside.relations.items;
      functions = c.self.inside.functions.items;
    } in
    relation_is_written c.args.self.now inside c.args.rel.0 c.args.tuple.now c.args.value c.deref.result.now
    c.index_mut-table.result.now c.set_cell.new.self c.self.view_is c.index_mut-table.ensures.value
    c.deref.ensures.value c.set_cell.ensures c.requires.known

pub returns-clause-set : goal.returns-clause-set
returns-clause-set c =
    relation_is_set c.args.self.now _ c.args.rel.0 c.args.tuple.now c.args.value (returns-clause-value c)
    (subst IsStructure c.self.view_is c.self.invariant) c.requires.known c.requires.in_range
