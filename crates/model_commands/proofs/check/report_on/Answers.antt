-- The report is made under the limits that were asked for.
use Rattle.std.proofs.Common.{subst}
use Rattle.rml_report.specs.Reports.{Reports}
use Rattle.limits.specs.Ceilings.{Ceilings}
use Rattle.verdicts.specs.Answers.{IsReport}
use Rattle.command_parts.specs.Limits.{ceilings_of}
use Rattle.model_commands.proofs.check.report_on.Goals as goal

pub returns : goal.returns
returns g c =
    let m = c.args.model.now in
    let report = c.in_ok-report.report in
    let limits = ceilings_of c.args.asked in
    let counted = c.args.counted in
    let made : IsReport counted limits m report =
    subst (λ (l : Ceilings). IsReport counted l m report) c.limits_of-limits.ensures c.in_ok-report.ensures in
    let right : Reports m report = c.report_law.ensures.right counted limits m report made in
    record {
      reports = right;
      safe = c.report_law-2.ensures m report c.model-model.ensures.checked.model.fits right;
      now = made;
    }
