use Rattle.fol_sig.specs.Tables.{relation_at}
use Rattle.fol_sig.proofs.TupleSets.{range-decided}
use Rattle.fol_sig.proofs.structure.Structure.are_in_range.Goals as goal

pub returns-clause-decides : goal.returns-clause-decides
returns-clause-decides c =
    range-decided c.args.self.now.sizes (relation_at c.args.self.now c.args.rel.0).sorts c.args.tuples.now
    c.all_in_range-answer.result c.all_in_range-answer.ensures
