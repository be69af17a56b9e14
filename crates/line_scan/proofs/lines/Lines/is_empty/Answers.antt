use Rattle.std.proofs.Common.{◌≡◌, ◌∙◌, sym, ap}
use Rattle.line_scan.specs.Lines.{lines_of, LinesLeft}
use Rattle.line_scan.proofs.Cutting.{no_lines, length_none, none_length, back}
use Rattle.line_scan.proofs.lines.Lines.is_empty.Goals as goal

pub returns : goal.returns
returns c =
    let view : record { lines = lines_of c.self.inside.rest.now; number = c.self.inside.number } ≡ c.args.self.now =
    c.self.view_is in
    let lines : lines_of c.self.inside.rest.now ≡ c.args.self.now.lines = ap (λ (l : LinesLeft). l.lines) view in (
      λ t. sym lines ∙ back c.self.inside.rest.now (length_none c.self.inside.rest.now (sym c.is_empty.ensures ∙ t)),
      λ e. c.is_empty.ensures ∙ none_length c.self.inside.rest.now (no_lines c.self.inside.rest.now (lines ∙ e)),
    )
