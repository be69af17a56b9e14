use Rattle.std.proofs.Common.{◌++◌, ap, ◌∙◌, append_assoc, codes, decimal}
use Rattle.branches.specs.MarkText.{number_text}
use Rattle.branches.proofs.lines.push_branch_number.Goals as goal

pub returns : goal.returns
unfolding number_text
returns c = λ whole.
    let number = c.push_number.ensures whole in
    let words = c.push_str.ensures number.0 in (
      words.0,
      number.1 ∙ ap (λ z. z ++ decimal c.args.number) words.1
          ∙ append_assoc c.args.out.now.text (codes " `choose` takes branch ") (decimal c.args.number),
    )
