use Rattle.std.proofs.Common.{ap, sym, ◌∙◌}
use Rattle.report_read.specs.Reading.{read_all}
use Rattle.report_read.proofs.reading.read_text.Goals as goal

pub returns : goal.returns
returns c =
    (c.read_all.new.reader, ap (read_all c.args.checked.now) (sym c.new-reader.ensures) ∙ c.in_ok-printed.ensures)
