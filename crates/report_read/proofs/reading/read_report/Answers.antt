use Rattle.std.proofs.Common.{◌<◌, ◌^◌, length, arith}
use Rattle.line_scan.specs.Lines.{lines_of}
use Rattle.report_read.proofs.GroupTurns.{text_report, text_read, text_unread, text_there}
use Rattle.report_read.proofs.reading.read_report.Goals as goal

pub returns-clause-report : goal.returns-clause-report
returns-clause-report c =
    text_report c.args.checked.now c.check_given.ensures.checked c.check_given.ensures.signature c.reading_laws.ensures
    (lines_of c.args.text.now) c.read_text-read.result c.read_text-read.ensures

pub returns-clause-read : goal.returns-clause-read
returns-clause-read c =
    let few : length (lines_of c.args.text.now) < 2 ^ 63 =
    omega (arith, c.line_laws.ensures.few c.args.text.now, c.check_given.ensures.few) in
    text_read c.args.checked.now c.check_given.ensures.checked c.check_given.ensures.signature c.reading_laws.ensures
    (lines_of c.args.text.now) c.read_text-read.result few c.read_text-read.ensures

pub returns-clause-unread : goal.returns-clause-unread
returns-clause-unread c =
    text_unread c.args.checked.now c.check_given.ensures.checked c.check_given.ensures.signature c.reading_laws.ensures
    (lines_of c.args.text.now) c.read_text-read.result c.read_text-read.ensures

pub returns-clause-there : goal.returns-clause-there
returns-clause-there c =
    text_there c.args.checked.now c.check_given.ensures.checked c.check_given.ensures.signature c.reading_laws.ensures
    (lines_of c.args.text.now) c.read_text-read.result c.read_text-read.ensures
