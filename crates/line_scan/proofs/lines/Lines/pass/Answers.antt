use Rattle.std.proofs.Common.{◌≡◌, ℕ, ◌-◌, List, length, take, drop, ◌∙◌, ap, sym, arith, length-drop}
use Rattle.std.proofs.lemmas.List.{take_all}
use Rattle.line_scan.specs.Lines.{lines_of, behind_first, LinesLeft, first_length_of}
use Rattle.line_scan.proofs.Cutting.{rest_is, one_more}
use Rattle.line_scan.proofs.lines.Lines.pass.Goals as goal

left : (bs : List ℕ) (n : ℕ) → n ≡ first_length_of bs
    → lines_of (take (length bs - n) (drop n bs)) ≡ behind_first (lines_of bs)
left bs n e =
    ap lines_of (take_all (length bs - n) (drop n bs) (omega (arith, length-drop n bs)))
    ∙ ap (λ k. lines_of (drop k bs)) e ∙ rest_is bs

pub returns-clause-lines : goal.returns-clause-lines
returns-clause-lines c =
    let lines : lines_of c.self.inside.rest.now ≡ c.args.self.now.lines = ap (λ (l : LinesLeft). l.lines)
    c.self.view_is in
    left c.self.inside.rest.now c.first_length.result c.first_length.ensures.value ∙ ap behind_first lines

pub returns-clause-number : goal.returns-clause-number
returns-clause-number c =
    let bs : List ℕ = c.self.inside.rest.now in
    let lines : lines_of c.self.inside.rest.now ≡ c.args.self.now.lines = ap (λ (l : LinesLeft). l.lines)
    c.self.view_is in
    let number : c.self.inside.number ≡ c.args.self.now.number = ap (λ (l : LinesLeft). l.number) c.self.view_is in
    let e = left c.self.inside.rest.now c.first_length.result c.first_length.ensures.value in
    let more = one_more c.self.inside.rest.now (sym c.is_empty.ensures ∙ c.if-is_empty.false) in
    omega (arith, ap (length {A = List ℕ}) e, more, number, ap (length {A = List ℕ}) lines)
