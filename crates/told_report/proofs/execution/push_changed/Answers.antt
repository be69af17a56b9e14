use Rattle.std.proofs.Common.{sym}
use Rattle.fol_sig.specs.Symbols.{symbols}
use Rattle.told_report.proofs.execution.push_changed.Goals as goal

pub push_differences-requires-clause-alike : goal.push_differences-requires-clause-alike
push_differences-requires-clause-alike g c =
    let followed = rw c.in-Ok-Ended.field-0-is at c.in-Ok-Ended.ensures in
    c.end_law.ensures c.args.checked.now.axioms c.path-path.result c.args.shown.now.trace.havoc
    (symbols c.args.checked.now.signature) c.args.shown.now.structure c.in-Ok-Ended.end c.requires.shown.structure
    followed.fits (sym followed.outcome)
