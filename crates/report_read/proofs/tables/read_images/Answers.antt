use Rattle.std.proofs.Common.{sym, ◌∙◌}
use Rattle.fol_sig.specs.Tables.{function_at, size_at}
use Rattle.line_scan.specs.Scanning.{name_at}
use Rattle.report_read.proofs.Lengths.{length_images, within_images}
use Rattle.report_read.proofs.tables.read_images.Goals as goal

pub returns-clause-full : goal.returns-clause-full
returns-clause-full c =
    length_images c.args.structure.now.sizes c.args.sizes.now (function_at c.args.structure.now c.args.fun.0).sorts
    (size_at c.args.structure.now (function_at c.args.structure.now c.args.fun.0).into)
    (name_at c.as_slice-names.result.now c.args.fun.0) c.first.result.now c.in-Some.cells c.requires.sizes
    (sym c.in_ok-cells.ensures ∙ c.in-Some.is)

pub returns-clause-within : goal.returns-clause-within
returns-clause-within c =
    within_images c.args.sizes.now (function_at c.args.structure.now c.args.fun.0).sorts
    (size_at c.args.structure.now (function_at c.args.structure.now c.args.fun.0).into)
    (name_at c.as_slice-names.result.now c.args.fun.0) c.first.result.now c.in-Some.cells
    (sym c.in_ok-cells.ensures ∙ c.in-Some.is)
