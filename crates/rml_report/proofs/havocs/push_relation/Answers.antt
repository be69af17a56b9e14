use Rattle.std.proofs.Common.{◌<◌, length, sym, subst}
use Rattle.std.specs.List.{AllByRecursion}
use Rattle.rml_report.proofs.Cells.{sorts_known}
use Rattle.rml_report.proofs.havocs.push_relation.Goals as goal

pub push_set-requires : goal.push_set-requires
push_set-requires c =
    subst (AllByRecursion (λ k. k < length c.args.structure.now.sizes)) (sym c.relation_sorts.ensures)
    (sorts_known c.args.structure.now c.args.rel.0 c.requires.whole c.requires.known)
