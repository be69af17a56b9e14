use Rattle.std.proofs.Common.{◌≡◌, ◌+◌, List, [], drop, sym, ap, ◌∙◌, arith}
use Rattle.std.proofs.lemmas.List.{drop_all}
use Rattle.fol_formula.specs.Syntax.{FormTree}
use Rattle.fol_formula.specs.Counts.{saturated}
use Rattle.fol_formula.specs.Witnesses.{existentials}
use Rattle.fol_occurs.specs.View.{named}
use Rattle.fol_formula.specs.Sentences.{all_of}
use Rattle.rml_wp.specs.Preconditions.{mentioning}
use Rattle.rml_wp.proofs.premises.existentials_mentioning.Goals as goal

pub returns : goal.returns
returns c =
    let n = c.loop-sentence.count in
    let x = named c.args.symbol in
    let none : n ≡ n + 0 = omega arith in
    let end : drop c.loop-sentence.sentence-index c.args.sentences.now ≡ [] =
    drop_all c.loop-sentence.sentence-index c.args.sentences.now c.loop-sentence-test.false in
    sym c.loop-sentence.invariant.small ∙ ap saturated none
    ∙ ap (λ (ps : List FormTree). saturated (n + existentials (all_of (mentioning x ps)))) (sym end)
    ∙ c.loop-sentence.invariant.made
