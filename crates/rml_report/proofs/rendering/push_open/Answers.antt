use Rattle.std.proofs.Common.{codes}
use Rattle.rml_report.specs.Words.{cause_text}
use Rattle.rml_report.specs.ReportText.{open_text}
use Rattle.rml_report.proofs.Pieces.{three}
use Rattle.rml_report.proofs.rendering.push_open.Goals as goal

pub returns : goal.returns
unfolding open_text
returns c =
    three (codes "axioms: undecided ") (cause_text c.args.cause.now) (codes "\n") _ _ _ _
    c.in_ok-push_text.ensures.pushed c.in_ok-push_cause.ensures c.in_ok-push_text-2.ensures.pushed
