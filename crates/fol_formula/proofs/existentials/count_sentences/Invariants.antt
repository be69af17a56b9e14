use Rattle.std.proofs.Common.{◌≡◌, ◌+◌, ◌<◌, ◌^◌, drop, true}
use Rattle.fol_formula.specs.Syntax.{forms_of}
use Rattle.fol_formula.specs.Counts.{saturated}
use Rattle.fol_formula.specs.Existentials.{number_of_all}
use Rattle.fol_formula.proofs.existentials.count_sentences.Given as goal

abbrev pub invariant-loop-sentence : goal.invariant-loop-sentence
invariant-loop-sentence l =
    (l.all < 2 ^ 64)
    × (saturated (l.all + number_of_all true (forms_of (drop l.sentence-index l.sentences)))
    ≡ saturated (number_of_all true (forms_of l.sentences)))
