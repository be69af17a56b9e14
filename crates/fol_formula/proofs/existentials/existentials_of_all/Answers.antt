use Rattle.std.proofs.Common.{true, sym, ap, ◌∙◌}
use Rattle.fol_formula.specs.Sentences.{all_of}
use Rattle.fol_formula.specs.Counts.{saturated}
use Rattle.fol_formula.proofs.NumberOf.{numbers}
use Rattle.fol_formula.proofs.existentials.existentials_of_all.Goals as goal

pub returns : goal.returns
returns c = c.count_sentences.ensures ∙ ap saturated (sym (numbers true (all_of c.args.sentences.now)))
