use Rattle.std.proofs.Common.{◌≡◌, ◌++◌, map, drop}
use Rattle.fol_formula.specs.View.{form}
use Rattle.fol_occurs.specs.View.{named}
use Rattle.rml_wp.specs.Preconditions.{mentioning}
use Rattle.rml_wp.proofs.premises.all_mentioning.Given as goal

abbrev pub invariant-loop-sentence : goal.invariant-loop-sentence
invariant-loop-sentence l =
    map form l.some.items ++ mentioning (named l.symbol) (drop l.sentence-index l.sentences)
    ≡ mentioning (named l.symbol) l.sentences
