use Rattle.fol_sig.specs.Tables.{numbers}
use Rattle.fol_formula.specs.View.{form}
use Rattle.rml_exec.proofs.Ready.{relation_ready}
use Rattle.rml_exec.proofs.tables.set_relation.Goals as goal

pub fill_relation-requires : goal.fill_relation-requires
fill_relation-requires c =
    relation_ready c.args.structure.now c.args.rel.0 (form c.args.by.now) (numbers c.relation_sorts.result.now)
    c.requires c.relation_sorts.ensures
