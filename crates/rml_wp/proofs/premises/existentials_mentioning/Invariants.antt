use Rattle.std.proofs.Common.{◌≡◌, ◌+◌, drop}
use Rattle.fol_formula.specs.Counts.{saturated}
use Rattle.fol_formula.specs.Witnesses.{existentials}
use Rattle.fol_occurs.specs.View.{named}
use Rattle.fol_formula.specs.Sentences.{all_of}
use Rattle.rml_wp.specs.Preconditions.{mentioning}
use Rattle.rml_wp.proofs.premises.existentials_mentioning.Given as goal

abbrev pub invariant-loop-sentence : goal.invariant-loop-sentence
invariant-loop-sentence l = record {
  made : saturated (l.count + existentials (all_of (mentioning (named l.symbol) (drop l.sentence-index l.sentences))))
      ≡ saturated (existentials (all_of (mentioning (named l.symbol) l.sentences)));
  small : saturated l.count ≡ l.count;
}
