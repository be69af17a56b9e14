use Rattle.std.proofs.Common.{sym, ◌∙◌}
use Rattle.fol_sig.specs.Tables.{relation_at}
use Rattle.line_scan.specs.Scanning.{name_at}
use Rattle.report_read.proofs.Lengths.{length_truths}
use Rattle.report_read.proofs.tables.read_truths.Goals as goal

pub returns-clause-full : goal.returns-clause-full
returns-clause-full c =
    length_truths c.args.structure.now.sizes c.args.sizes.now (relation_at c.args.structure.now c.args.rel.0).sorts
    (name_at c.as_slice-names.result.now c.args.rel.0) c.first.result.now c.in-Some.cells c.requires.sizes
    (sym c.in_ok-cells.ensures ∙ c.in-Some.is)
