use Rattle.std.proofs.Common.{◌≡◌, drop}
use Rattle.fol_formula.specs.Syntax.{forms_of}
use Rattle.ground_size.specs.Walks.{all_raised}
use Rattle.ground_size.proofs.parts.add_existentials_of_each.Given as goal

abbrev pub invariant-loop-sentence : goal.invariant-loop-sentence
invariant-loop-sentence l =
    all_raised 1 0 (forms_of (drop l.sentence-index l.sentences)) l.counts ≡ all_raised 1 0 (forms_of l.sentences)
    l.initial.counts
