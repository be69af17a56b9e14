use Rattle.std.proofs.Common.{◌≡◌, ◌∙◌, ap, take}
use Rattle.line_scan.specs.Lines.{lines_of, first_of, LinesLeft}
use Rattle.line_scan.proofs.Cutting.{first_is}
use Rattle.line_scan.proofs.lines.Lines.first.Goals as goal

pub returns : goal.returns
returns c =
    let lines : lines_of c.self.inside.rest.now ≡ c.args.self.now.lines = ap (λ (l : LinesLeft). l.lines)
    c.self.view_is in
    ap (λ n. take n c.self.inside.rest.now) c.first_length.ensures.value ∙ first_is c.self.inside.rest.now
    ∙ ap first_of lines
