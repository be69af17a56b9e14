use Rattle.std.proofs.Common.{◌≡◌, map, take}
use Rattle.fol_formula.specs.View.{form}
use Rattle.fol_formula.proofs.sentence.conjunction.Given as goal

abbrev pub invariant-loop-sentence : goal.invariant-loop-sentence
invariant-loop-sentence l = map form l.all.items ≡ take l.sentence-index l.sentences
