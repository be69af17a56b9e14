use Rattle.std.proofs.Common.{◌≡◌, drop}
use Rattle.fol_formula.specs.Fits.{HaveTruth}
use Rattle.fol_formula.specs.Sentences.{satisfies}
use Rattle.fol_eval.proofs.evaluation.satisfies.Given as goal

abbrev pub invariant-loop-sentence : goal.invariant-loop-sentence
invariant-loop-sentence l = record {
  ready : HaveTruth l.structure (drop l.sentence-index l.sentences);
  same : satisfies l.structure (drop l.sentence-index l.sentences) ≡ satisfies l.structure l.sentences;
}
